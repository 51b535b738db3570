-- What follows from strong compliance.
use Rattle.std.proofs.Common.{List, subst}
use Rattle.std.proofs.Math.ListN.{get_or}
use Rattle.std.proofs.lemmas.List.Elements.{All-weaker, All-contains, Contains-get_or}
use Rattle.std.specs.List.{All, Contains}
use Rattle.ba_model.proofs.UniqueLemmas.{same_sorted}
use Rattle.ba_model.specs.Meaning.{InAnswer, IsAnswer}
use Rattle.ba_model.specs.OrderLaws.{row_total, row_equal}
use Rattle.ba_model.specs.declared.policy.Context.{Context}
use Rattle.ba_model.specs.declared.query.Query.{Query}
use Rattle.ba_model.specs.declared.value.RowSet.{RowSet}
use Rattle.ba_model.specs.declared.value.Value.{Value}
use Rattle.ba_comply.specs.Comply.{AnswerEverywhere, CompliesHasOneAnswer, Grows, IsKeptIn, Records, SameAnswer, Shows, StrongComplies, StrongIsKept}
use Rattle.ba_comply.specs.declared.trace.TraceEntry.{TraceEntry}

-- what holds of each element that a list contains holds of all
pub All-from_contains : {X : Type 0} (P : X → Type 0) (xs : List X) → ((x : X) → Contains xs x → P x) → All P xs
All-from_contains P xs f k d below = f (get_or xs k d) (Contains-get_or xs k d below)

-- a database that records a trace shows it
pub Shows-from_records : (trace : List TraceEntry) (c : Context) (d : RowSet) → Records trace c d → Shows trace c d
Shows-from_records trace c d h =
    record {
      entries = All-weaker (λ entry. IsAnswer entry.query c d entry.rows) (λ entry. All (InAnswer entry.query c d) entry.rows)
          (λ entry a. All-from_contains (InAnswer entry.query c d) entry.rows a.sound) trace h.entries;
    }

pub strong_complies : StrongComplies
strong_complies policy c trace q strong =
    record {
      same = λ d e cd ce agree rd re.
          record {
            within = strong.within d e cd ce agree.within (Shows-from_records trace c d rd);
            back = strong.within e d ce cd agree.back (Shows-from_records trace c e re);
          };
    }

-- the answer in d of a query that has the same rows in e is its answer in e
answer_moves : (q : Query) (c : Context) (d e : RowSet) (rows : List (List Value)) → SameAnswer q c d e → IsAnswer q c d rows → IsAnswer q c e rows
answer_moves q c d e rows same answer =
    record {
      rising = answer.rising;
      sound = λ r h. same.within.rows r (answer.sound r h);
      complete = λ r h. answer.complete r (same.back.rows r h);
    }

pub answer_everywhere : AnswerEverywhere
answer_everywhere policy c trace q d e rows strong cd ce agree rd re =
    answer_moves q c d e rows ((strong_complies policy c trace q strong).same d e cd ce agree rd re)

pub complies_has_one_answer : CompliesHasOneAnswer
complies_has_one_answer policy c trace q d e xs ys complies cd ce agree rd re ax ay =
    let moved = answer_moves q c d e xs (complies.same d e cd ce agree rd re) ax in
    same_sorted row_total row_equal xs ys moved.rising ay.rising (λ r h. ay.complete r (moved.sound r h)) (λ r h. moved.complete r (ay.sound r h))

-- a database that shows the new trace shows the old one
pub Shows-earlier : (old new : List TraceEntry) (c : Context) (d : RowSet) → Grows old new → Shows new c d → Shows old c d
Shows-earlier old new c d grows shown =
    record {
      entries = All-weaker (IsKeptIn new) (λ entry. All (InAnswer entry.query c d) entry.rows)
          (λ entry kept.
          All-from_contains (InAnswer entry.query c d) entry.rows
          (λ r h.
          let all = All-contains (λ later. All (InAnswer later.query c d) later.rows) new kept.later shown.entries kept.there in
          subst (λ q. InAnswer q c d r) kept.query (All-contains (InAnswer kept.later.query c d) kept.later.rows r all (kept.rows r h))))
          old grows.entries;
    }

pub strong_is_kept : StrongIsKept
strong_is_kept policy c old new q grows strong =
    record { within = λ d e cd ce within shown. strong.within d e cd ce within (Shows-earlier old new c d grows shown) }
