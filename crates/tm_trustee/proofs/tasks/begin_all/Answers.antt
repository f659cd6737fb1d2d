use Rattle.std.proofs.Common.{refl, subst, sym, arith}
use Rattle.tm_state.specs.Resuming.{AllAwait}
use Rattle.tm_trustee.proofs.GoingLoops.{resumable, noted_told}
use Rattle.tm_trustee.proofs.Telling as telling
use Rattle.tm_trustee.proofs.tasks.begin_all.Goals as goal

pub loop-resumed-init : goal.loop-resumed-init
loop-resumed-init g c = record {
  from =
      telling.from_first g.S.Entrusted.kind c.args.number c.args.held.now c.args.made.now c.args.state.now c.args.lanes.now.items c.requires.going;
  told = c.requires.told;
}

pub resume-requires : goal.resume-requires
resume-requires g c =
    resumable g.S.Entrusted.kind c.args.number c.args.held.now c.loop-resumed.made.entries.items c.loop-resumed.state c.loop-resumed.lanes.items
    c.loop-resumed.invariant.from.going

pub note-requires : goal.note-requires
note-requires g c =
    telling.begun_note g.S.Entrusted.kind c.args.number c.args.held.now c.loop-resumed.made c.resume.new.made c.loop-resumed.state c.resume.new.self
    c.loop-resumed.lanes.items c.in-Some.resumed c.in-Some.ensures.goes c.resume.ensures.keeps c.loop-resumed.invariant.from.going

pub loop-resumed-preserved : goal.loop-resumed-preserved
loop-resumed-preserved g c =
    let i = c.loop-resumed.invariant in
    let lanes = c.loop-resumed.lanes.items in
    let final = c.note.new.lanes.items in record {
      from =
          telling.from_begun g.S.Entrusted.kind c.args.number c.args.held.now c.loop-resumed.made c.resume.new.made c.loop-resumed.state c.resume.new.self
          lanes c.in-Some.resumed c.in-Some.ensures.goes c.resume.ensures.keeps final c.note.ensures c.args.made.now c.args.state.now c.args.lanes.now.items
          i.from;
      told = noted_told c.args.number c.in-Some.resumed lanes final c.note.ensures i.told;
    }

pub loop-resumed-smaller : goal.loop-resumed-smaller
loop-resumed-smaller g c = let fewer = c.in-Some.ensures.fewer in omega (arith, fewer)

pub returns : goal.returns
returns g c =
    let none = c.in_default.ensures in
    let from =
    telling.from_same g.S.Entrusted.kind c.args.number c.args.held.now c.args.made.now c.loop-resumed.made c.resume.new.made c.args.state.now
    c.loop-resumed.state c.resume.new.self c.args.lanes.now.items c.loop-resumed.lanes.items c.loop-resumed.lanes.items c.loop-resumed.invariant.from
    none.unmade none.same refl in record {
      goes = from.goes;
      made = from.made;
      told = c.loop-resumed.invariant.told;
      all = subst (λ s. AllAwait g.S.Entrusted.kind s) (sym none.same) none.none;
    }
