-- A part alone, and what its strong compliance gives.
use Rattle.std.proofs.Common.{◌≡◌, ◌≤◌, inl, inr, List, [], ◌∷◌, length, refl, sym, subst, arith}
use Rattle.std.proofs.lemmas.List.Elements.{All-contains}
use Rattle.std.specs.List.{All, Contains}
use Rattle.ba_model.proofs.ElementLemmas.{Contains-cases, Contains-head, Contains-nil}
use Rattle.ba_model.proofs.UniqueLemmas.{same_sorted}
use Rattle.ba_model.specs.Fit.{IsQuery, PartFits, PartWithin}
use Rattle.ba_model.specs.Limits.{most_parts}
use Rattle.ba_model.specs.Meaning.{InAnswer, InPart}
use Rattle.ba_model.specs.OrderLaws.{row_total, row_equal}
use Rattle.ba_model.specs.declared.policy.Context.{Context}
use Rattle.ba_model.specs.declared.query.Part.{Part}
use Rattle.ba_model.specs.declared.query.Query.{Query}
use Rattle.ba_model.specs.declared.schema.Kind.{Kind}
use Rattle.ba_model.specs.declared.schema.Schema.{Schema}
use Rattle.ba_model.specs.declared.value.RowSet.{RowSet}
use Rattle.ba_model.specs.declared.value.Value.{Value}
use Rattle.ba_comply.proofs.ComplyLemmas.{All-from_contains}
use Rattle.ba_comply.specs.Comply.{Strong}
use Rattle.ba_parts.specs.Laws.{PartIsQuery, StrongHasOneAnswer, UnionIsStrong}
use Rattle.ba_parts.specs.Parts.{alone}

-- a row of the part alone is one that the part gives, and the other way round
pub from_alone : (part : Part) (c : Context) (d : RowSet) (r : List Value) → InAnswer (alone part) c d r → InPart c d part r
from_alone part c d r (other, there, given) =
    elim (Contains-cases part [] other there) [
      | inl same ↦ subst (λ p. InPart c d p r) (sym same) given
      | inr none ↦ absurd (Contains-nil other none)
    ]

pub to_alone : (part : Part) (c : Context) (d : RowSet) (r : List Value) → InPart c d part r → InAnswer (alone part) c d r
to_alone part c d r given = (part, Contains-head part [], given)

pub union_is_strong : UnionIsStrong
union_is_strong policy c trace q strong =
    record {
      within = λ d e cd ce within shown.
          record {
            rows = λ r (part, there, given).
                let one = All-contains (λ p. Strong policy c trace (alone p)) q.parts part strong there in
                let kept = (one.within d e cd ce within shown).rows r (to_alone part c d r given) in
                (part, there, from_alone part c e r kept);
          };
    }

some_part : (part : Part) → part ∷ [] ≡ [] → ⊥
some_part part e = cc

one_part : (part : Part) → length (part ∷ []) ≤ most_parts
one_part part = omega arith

all_of_one : (P : Part → Type 0) (part : Part) → P part → All P (part ∷ [])
all_of_one P part h = Rattle.std.proofs.lemmas.List.Elements.All-cons P part [] h (Rattle.std.proofs.lemmas.List.Elements.All-nil P)

-- a part alone is a query with the heads' kinds of the whole
pub alone_query : (s : Schema) (params vars : List Kind) (q : Query) (h : IsQuery s params vars q) (part : Part) → Contains q.parts part → (it : IsQuery s params vars (alone part)) × (it.fits.kinds ≡ h.fits.kinds)
alone_query s params vars q h part there = (
  record {
    fits =
        record {
          kinds = h.fits.kinds;
          some_kind = h.fits.some_kind;
          some_part = some_part part;
          parts = all_of_one (PartFits s params vars h.fits.kinds) part (All-contains (PartFits s params vars h.fits.kinds) q.parts part h.fits.parts there);
        };
    few_parts = one_part part;
    within = all_of_one PartWithin part (All-contains PartWithin q.parts part h.within there);
  },
  refl,
)

pub part_is_query : PartIsQuery
part_is_query s params vars q h =
    All-from_contains (λ part. IsQuery s params vars (alone part)) q.parts (λ part there. (alone_query s params vars q h part there).0)

pub strong_has_one_answer : StrongHasOneAnswer
strong_has_one_answer policy c trace q d e xs ys strong cd ce agree sd se ax ay =
    let there = strong.within d e cd ce agree.within sd in
    let back = strong.within e d ce cd agree.back se in
    same_sorted row_total row_equal xs ys ax.rising ay.rising (λ r h. ay.complete r (there.rows r (ax.sound r h))) (λ r h. ax.complete r (back.rows r (ay.sound r h)))
