-- What is found to contradict itself is in no database.
use Rattle.std.proofs.Common.{◌≡◌, ◌≢◌, ◌↔◌, ◌∙◌, ℕ, min, Bool, true, false, List, ◌++◌, Option, Some, None, MatchOption, is_some, sym, subst}
use Rattle.std.proofs.lemmas.List.Elements.{All-append, All-contains, Contains-append_left, Contains-append_right}
use Rattle.ba_comply.proofs.ComplyLemmas.{All-from_contains}
use Rattle.std.specs.List.{All}
use Rattle.ba_clash.proofs.LawLemmas.{clashing_has_no_database}
use Rattle.ba_comply.specs.Comply.{Shows}
use Rattle.ba_comply.specs.declared.trace.TraceEntry.{TraceEntry}
use Rattle.ba_model.specs.Meaning.{InAnswer}
use Rattle.ba_model.specs.declared.policy.Context.{Context}
use Rattle.ba_model.specs.declared.value.RowSet.{RowSet}
use Rattle.ba_clash.specs.Clash.{AreFew as AreCompared, Clashes}
use Rattle.ba_contradict.specs.Contradictions.{Contradicted, StaysOpen}
use Rattle.ba_kernel.specs.declared.step.Step.{Step}
use Rattle.ba_model.specs.declared.policy.Policy.{Policy}
use Rattle.ba_model.specs.declared.schema.Schema.{Schema}
use Rattle.ba_live.specs.Contradicting.{Finds, FoundIsNone, room_after}
use Rattle.ba_live.specs.Limits.{most_searched_rows, most_searched_steps}
use Rattle.ba_live.specs.Contradicting.IsFound.{clash, searched}

pub shows_both : (c : Context) (d : RowSet) (old new : List TraceEntry) → Shows old c d → Shows new c d → Shows (old ++ new) c d
shows_both c d old new h k = record { entries = All-append (λ (entry : TraceEntry). All (InAnswer entry.query c d) entry.rows) old new h.entries k.entries }

shows_old : (c : Context) (d : RowSet) (old new : List TraceEntry) → Shows (old ++ new) c d → Shows old c d
shows_old c d old new h =
    record {
      entries = All-from_contains (λ (entry : TraceEntry). All (InAnswer entry.query c d) entry.rows) old
          (λ it there. All-contains (λ (entry : TraceEntry). All (InAnswer entry.query c d) entry.rows) (old ++ new) it h.entries (Contains-append_left old new it there));
    }

shows_new : (c : Context) (d : RowSet) (old new : List TraceEntry) → Shows (old ++ new) c d → Shows new c d
shows_new c d old new h =
    record {
      entries = All-from_contains (λ (entry : TraceEntry). All (InAnswer entry.query c d) entry.rows) new
          (λ it there. All-contains (λ (entry : TraceEntry). All (InAnswer entry.query c d) entry.rows) (old ++ new) it h.entries (Contains-append_right old new it there));
    }

pub found_is_none : FoundIsNone
found_is_none policy effort c old new (clash few h) =
    record { none = λ d conforms shows. clashing_has_no_database policy.schema c old new h d conforms (shows_old c d old new shows) (shows_new c d old new shows) }
found_is_none policy effort c old new (searched few steps h) = h.none

-- what was searched, or that nothing was found
pub finds_searched : (policy : Policy) (orders budget steps : ℕ) (c : Context) (old new told : List TraceEntry) (s : Schema) (clashed few found_some : Bool) (found : Option (List Step))
    → s ≡ policy.schema → ((clashed ≡ true) ↔ (AreCompared old new × Clashes s c old new)) → clashed ≡ false → steps ≡ min budget most_searched_steps → told ≡ old ++ new
    → found_some ≡ is_some found
    → MatchOption found (StaysOpen policy c told (record { orders = orders; budget = steps })) (λ it. Contradicted policy c told (record { orders = orders; budget = steps }) it)
    → few ≡ is_some (room_after most_searched_rows (old ++ new)) → few ≡ true → Finds policy (record { orders = orders; budget = budget }) c old new found_some
finds_searched policy orders budget steps c old new told s clashed few found_some found schema exact no_clash least joined is outcome fits true_few =
    subst (Finds policy (record { orders = orders; budget = budget }) c old new) (sym is)
    (by found
    (subst (λ (n : ℕ). MatchOption found (StaysOpen policy c (old ++ new) (record { orders = orders; budget = n })) (λ it. Contradicted policy c (old ++ new) (record { orders = orders; budget = n }) it)) least
    (subst (λ (es : List TraceEntry). MatchOption found (StaysOpen policy c es (record { orders = orders; budget = steps })) (λ it. Contradicted policy c es (record { orders = orders; budget = steps }) it)) joined outcome)))
  where
    both : (b : Bool) → b ≡ true → b ≡ false → ⊥
    both b t f = cc

    some_room : (o : Option ℕ) → is_some o ≡ true → o ≢ None
    some_room None e = cc
    some_room (Some n) e = λ h. cc

    by : (o : Option (List Step))
        → MatchOption o (StaysOpen policy c (old ++ new) (record { orders = orders; budget = min budget most_searched_steps })) (λ it. Contradicted policy c (old ++ new) (record { orders = orders; budget = min budget most_searched_steps }) it)
        → Finds policy (record { orders = orders; budget = budget }) c old new (is_some o)
    by None h = record { no_clash = λ compared it. both clashed (exact.1 (compared, subst (λ (x : Schema). Clashes x c old new) (sym schema) it)) no_clash; open_ = λ _. h }
    by (Some it) h = searched (some_room (room_after most_searched_rows (old ++ new)) (sym fits ∙ true_few)) it h
