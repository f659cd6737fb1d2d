-- What a contract sees of what a trustee has.
use Rattle.std.specs.Prelude.{ℕ, Bool, List, refl}
use Rattle.std.specs.Coded.{Coded, code_by, coded×, coded_ℕ, coded_bool, coded_list}
use Rattle.tm_batch.specs.declared.config.Config.{Config}
use Rattle.tm_batch.specs.declared.message.Completion.{Completion}
use Rattle.tm_batch.specs.contracts.config.Config as config
use Rattle.tm_latch.specs.declared.ticket.Ticket.{Ticket}
use Rattle.tm_latch.specs.Tickets.{ticket_code}
use Rattle.tm_objects.specs.Stock.{Stock, stock_code}
use Rattle.tm_state.specs.Launches.{Pending, pending_code}

-- the config and the trustee's number, its objects with the gifts that wait, whether each place is closed, the launches that have not
-- ended, in the order in which they came, the completions that are ready for each place, the longest waiting first, the next ticket, and
-- how many requests were run and how many entries its log has, as a `u64` counts them
pub record StateView (V O R T : Type 0) : Type 0 where
  pub config : Config
  pub number : ℕ
  pub stock : Stock V
  pub closed : List Bool
  pub launched : List (Ticket (Pending T))
  pub ready : List (List (Completion V O R T))
  pub next_ticket : ℕ
  pub run : ℕ
  pub entries : ℕ

-- a completion is stored as the tuple of its fields
abbrev pub completion_code : {V O R T : Type 0} → Coded R → Coded (Completion V O R T)
completion_code {V} {O} {R} {T} code =
    code_by (ℕ × R) (coded× coded_ℕ code) (λ x. (x.ticket, x.reply)) (λ p. record { ticket = p.0; reply = p.1 }) (λ _. refl)

-- it is stored as the tuple of its fields
abbrev pub state_view_code : {V O R T : Type 0} → Coded V → Coded R → Coded T → Coded (StateView V O R T)
state_view_code {V} {O} {R} {T} value reply task =
    code_by
    (Config × (ℕ × (Stock V × (List Bool × (List (Ticket (Pending T)) × (List (List (Completion V O R T)) × (ℕ × (ℕ × ℕ))))))))
    (coded× config.the_row.coded (coded× coded_ℕ (coded× (stock_code value) (coded× (coded_list coded_bool) (coded× (coded_list (ticket_code (pending_code task))) (coded× (coded_list (coded_list (completion_code reply))) (coded× coded_ℕ (coded× coded_ℕ coded_ℕ))))))))
    (λ h. (h.config, (h.number, (h.stock, (h.closed, (h.launched, (h.ready, (h.next_ticket, (h.run, h.entries)))))))))
    (λ p. record {
      config = p.0;
      number = p.1.0;
      stock = p.1.1.0;
      closed = p.1.1.1.0;
      launched = p.1.1.1.1.0;
      ready = p.1.1.1.1.1.0;
      next_ticket = p.1.1.1.1.1.1.0;
      run = p.1.1.1.1.1.1.1.0;
      entries = p.1.1.1.1.1.1.1.1;
    })
    (λ _. refl)
