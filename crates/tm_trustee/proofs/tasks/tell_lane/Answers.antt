use Rattle.std.proofs.Common.{◌<◌, refl, sym, subst}
use Rattle.tm_trustee.specs.Tasks.{IsToldAt, SameCame}
use Rattle.tm_trustee.proofs.GoingLoops.{resumable}
use Rattle.tm_trustee.proofs.Telling as telling
use Rattle.tm_trustee.proofs.tasks.tell_lane.Goals as goal

pub loop-launch-init : goal.loop-launch-init
loop-launch-init g c = record {
  from = telling.from_first g.S.Entrusted.kind c.args.number c.args.held.now c.args.made.now c.args.state.now c.args.lanes.now.items c.requires.going;
  others = telling.same_came c.args.i c.args.lanes.now.items;
}

pub next_at-requires : goal.next_at-requires
next_at-requires g c =
    let from = c.loop-launch.invariant.from in record {
      index = subst (λ n. c.args.i < n) (sym from.as_many) c.requires.index;
      askers =
          telling.has_askers g.S.Entrusted.kind c.args.number c.args.held.now c.loop-launch.made c.loop-launch.state c.loop-launch.lanes.items c.args.i from.going;
    }

pub reply-resumed-requires : goal.reply-resumed-requires
reply-resumed-requires g c =
    let kind = g.S.Entrusted.kind in
    let held = c.args.held.now in
    let old = c.loop-launch.made in
    let h = c.loop-launch.state in
    let lanes = c.loop-launch.lanes.items in
    let going = c.loop-launch.invariant.from.going in
    let takes = c.in-Some.ensures.takes in record {
      may = resumable kind c.args.number held old.entries.items h lanes going;
      first = telling.told_first kind c.args.number held c.args.i c.in-Some.launch c.in-Some.reply old h lanes c.next_at.new.lanes.items takes going;
      begun = telling.told_begun kind c.args.number held c.args.i c.in-Some.launch c.in-Some.reply old h lanes c.next_at.new.lanes.items takes going;
    }

pub note-requires : goal.note-requires
note-requires g c =
    telling.told_note g.S.Entrusted.kind c.args.number c.args.held.now c.args.i c.in-Some.launch c.in-Some.reply c.loop-launch.made c.loop-launch.state
    c.loop-launch.lanes.items c.next_at.new.lanes.items c.in-Some.ensures.takes c.reply-resumed.new.made c.reply-resumed.new.self c.reply-resumed.result
    c.reply-resumed.ensures.goes c.reply-resumed.ensures.keeps c.loop-launch.invariant.from.going

pub loop-launch-preserved : goal.loop-launch-preserved
loop-launch-preserved g c =
    let kind = g.S.Entrusted.kind in
    let held = c.args.held.now in
    let n = c.args.number in
    let i = c.args.i in
    let launch = c.in-Some.launch in
    let reply = c.in-Some.reply in
    let old = c.loop-launch.made in
    let h = c.loop-launch.state in
    let lanes = c.loop-launch.lanes.items in
    let mids = c.next_at.new.lanes.items in
    let takes = c.in-Some.ensures.takes in
    let made = c.reply-resumed.new.made in
    let new = c.reply-resumed.new.self in
    let result = c.reply-resumed.result in
    let goes = c.reply-resumed.ensures.goes in
    let keeps = c.reply-resumed.ensures.keeps in
    let final = c.note.new.lanes.items in
    let from = c.loop-launch.invariant.from in record {
      from =
          telling.from_told kind n held i launch reply old h lanes mids takes made new result goes keeps final c.note.ensures c.args.made.now c.args.state.now
          c.args.lanes.now.items from;
      others =
          telling.others_told kind n held i launch reply old h lanes mids takes made new result goes keeps final c.note.ensures c.args.lanes.now.items
          from.as_many c.loop-launch.invariant.others;
    }

pub loop-launch-smaller : goal.loop-launch-smaller
loop-launch-smaller g c =
    telling.fewer_left g.S.Entrusted.kind c.args.number c.args.held.now c.args.i c.in-Some.launch c.in-Some.reply c.loop-launch.made c.loop-launch.state
    c.loop-launch.lanes.items c.next_at.new.lanes.items c.in-Some.ensures.takes c.reply-resumed.new.made c.reply-resumed.new.self c.reply-resumed.result
    c.reply-resumed.ensures.goes c.reply-resumed.ensures.keeps c.note.new.lanes.items c.note.ensures

pub returns : goal.returns
returns g c =
    let lanes = c.loop-launch.lanes.items in
    let final = c.next_at.new.lanes.items in
    let same = c.in_default.ensures.same in
    let from =
    telling.from_same g.S.Entrusted.kind c.args.number c.args.held.now c.args.made.now c.loop-launch.made c.loop-launch.made c.args.state.now c.loop-launch.state
    c.loop-launch.state c.args.lanes.now.items lanes final c.loop-launch.invariant.from refl refl same in record {
      goes = from.goes;
      made = from.made;
      as_many = from.as_many;
      told = subst (λ v. IsToldAt c.args.i v) (sym same) c.in_default.ensures.none;
      others = subst (λ v. SameCame c.args.i c.args.lanes.now.items v) (sym same) c.loop-launch.invariant.others;
    }
