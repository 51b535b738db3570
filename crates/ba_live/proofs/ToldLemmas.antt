-- What a database that gives all told rows shows.
use Rattle.std.proofs.Common.{List, [], ◌∷◌, ◌++◌, take}
use Rattle.std.proofs.lemmas.List.Elements.{All-append, All-contains, All-nil, All-take, Contains-append_left, Contains-push}
use Rattle.std.specs.List.{All}
use Rattle.ba_comply.proofs.ComplyLemmas.{All-from_contains}
use Rattle.ba_comply.specs.Comply.{Shows}
use Rattle.ba_comply.specs.declared.trace.TraceEntry.{TraceEntry}
use Rattle.ba_model.specs.Conform.{Conforms}
use Rattle.ba_model.specs.Meaning.{InAnswer}
use Rattle.ba_model.specs.declared.policy.Context.{Context}
use Rattle.ba_model.specs.declared.policy.Policy.{Policy}
use Rattle.ba_model.specs.declared.value.RowSet.{RowSet}
use Rattle.ba_parts.proofs.EntryLemmas.{entries_show_rows}
use Rattle.ba_parts.proofs.UnionLemmas.{strong_has_one_answer}
use Rattle.ba_live.specs.Laws.{AllowedHasOneAnswer, GivesTold, RecordsTold, ToldRows}
use Rattle.ba_live.specs.Laws.RecordsTold.{nothing, more, some}

gives_earlier : (c : Context) (told : List ToldRows) (it : ToldRows) (d : RowSet) → GivesTold c (told ++ it ∷ []) d → GivesTold c told d
gives_earlier c told it d gives =
    record {
      each = All-from_contains (λ (one : ToldRows). All (InAnswer one.query c d) one.rows) told
          (λ one there. All-contains (λ (other : ToldRows). All (InAnswer other.query c d) other.rows) (told ++ it ∷ []) one gives.each (Contains-append_left told (it ∷ []) one there));
    }

gives_last : (c : Context) (told : List ToldRows) (it : ToldRows) (d : RowSet) → GivesTold c (told ++ it ∷ []) d → All (InAnswer it.query c d) it.rows
gives_last c told it d gives = All-contains (λ (other : ToldRows). All (InAnswer other.query c d) other.rows) (told ++ it ∷ []) it gives.each (Contains-push told it)

pub shows_told : (policy : Policy) (c : Context) (d : RowSet) {told : List ToldRows} {trace : List TraceEntry} → Conforms policy.schema d → RecordsTold policy c told trace → GivesTold c told d → Shows trace c d
shows_told policy c d conforms nothing gives = record { entries = All-nil (λ (entry : TraceEntry). All (InAnswer entry.query c d) entry.rows) }
shows_told policy c d conforms (more {told = told} {trace = trace} {entries = entries} it rest are) gives =
    let earlier = shows_told policy c d conforms rest (gives_earlier c told it d gives) in
    let last = (entries_show_rows policy.schema c d it.query it.rows entries conforms are).0 (gives_last c told it d gives) in
    record { entries = All-append (λ (entry : TraceEntry). All (InAnswer entry.query c d) entry.rows) trace entries earlier.entries last.entries }
shows_told policy c d conforms (some {told = told} {trace = trace} {entries = entries} it count rest are) gives =
    let earlier = shows_told policy c d conforms rest (gives_earlier c told it d gives) in
    let last = (entries_show_rows policy.schema c d it.query it.rows entries conforms are).0 (gives_last c told it d gives) in
    record {
      entries = All-append (λ (entry : TraceEntry). All (InAnswer entry.query c d) entry.rows) trace (take count entries) earlier.entries
          (All-take (λ (entry : TraceEntry). All (InAnswer entry.query c d) entry.rows) count entries last.entries);
    }

pub allowed_has_one_answer : AllowedHasOneAnswer
allowed_has_one_answer asked told d e xs ys records strong alike ax ay =
    let sd = shows_told asked.policy asked.context d alike.conforms_one records alike.told_one in
    let se = shows_told asked.policy asked.context e alike.conforms_two records alike.told_two in
    strong_has_one_answer asked.policy asked.context asked.trace asked.query d e xs ys strong alike.conforms_one alike.conforms_two alike.agree sd se ax ay
