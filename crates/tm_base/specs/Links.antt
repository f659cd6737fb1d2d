-- What the listener in memory stands for, and what a call does.
use Rattle.std.specs.Prelude.{ℕ, List, drop, Option, Some}
use Rattle.tm_base.specs.declared.link.Link.{Link}
use Rattle.tm_base.specs.Plan.{Plan, after_call, after_fault}
use Rattle.tm_base.specs.Memory.{SourceState, PostState, ClockState}
use Rattle.tm_base.specs.Listening.{one_link_more}

-- a listener: the port that was bound last, the links to come, the number of links handed out, and which calls fail
pub record ListenerState : Type 0 where
  pub port : Option ℕ
  pub coming : List (Link SourceState PostState ClockState)
  pub accepted : ℕ
  pub plan : Plan

-- a listener that was bound to this port
abbrev pub after_bind : ℕ → ListenerState → ListenerState
after_bind port listener = record listener { port = Some port; plan = after_call listener.plan }

-- a listener that handed out a link
abbrev pub after_link : ListenerState → ListenerState
after_link listener =
    record {
      port = listener.port;
      coming = drop 1 listener.coming;
      accepted = one_link_more listener.accepted;
      plan = after_call listener.plan;
    }

-- a listener whose call failed
abbrev pub after_refusal : ListenerState → ListenerState
after_refusal listener = record listener { plan = after_fault (after_call listener.plan) }
