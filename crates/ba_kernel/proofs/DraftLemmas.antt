-- Drafts of problems: the row of an entry beside its query's head.
use Rattle.std.proofs.Common.{◌≡◌, ◌↔◌, Bool, false, ℕ, List, [], ◌∷◌, map, refl, sym, subst}
use Rattle.std.proofs.lemmas.List.Elements.{All-get_or}
use Rattle.std.proofs.lemmas.Option.{get_or_from_slice_get, slice_get_within}
use Rattle.std.specs.List.{All, AllZip}
use Rattle.std.specs.Prelude.{◌≢◌, IsTrue, Option, Some, None, slice_get}
use Rattle.ba_model.specs.Fit.{PartFits, kind_of, kinds_of}
use Rattle.ba_model.specs.declared.query.Operand.{Operand}
use Rattle.ba_model.specs.declared.query.Part.{Part}
use Rattle.ba_model.specs.declared.query.Query.{Query}
use Rattle.ba_model.specs.declared.schema.Kind.{Kind}
use Rattle.ba_kernel.specs.Courses.{EntryFits, ProblemFits, RowOperandFits}
use Rattle.ba_kernel.specs.Drafts.{IsChecked, IsQueryIn, IsWellFormed, MayStand, Stands}
use Rattle.ba_kernel.specs.Steps.{FirstWithout, IsFirstWithout}
use Rattle.ba_kernel.specs.declared.problem.Problem.{Problem}
use Rattle.ba_kernel.specs.declared.problem.ProblemEntry.{ProblemEntry}

-- what holds of each holds of the one at a place
pub at_place : {X : Type 0} (P : X → Type 0) (xs : List X) (i : ℕ) (x : X) → slice_get xs i ≡ Some x → All P xs → P x
at_place P xs i x there h = subst P (get_or_from_slice_get xs i x x there) (All-get_or P xs i x (slice_get_within xs i x there) h)

module _ (p : Problem) (from : List ℕ) where
  abbrev kind_here : Operand → Option Kind
  kind_here x = kind_of p.policy.schema (kinds_of p.policy.params) p.vars from x

  row_from_stands : (head : List Operand) (kinds : List Kind) (row : List Operand) → map kind_here head ≡ map Some kinds → Stands p from head row →
      AllZip (RowOperandFits p) kinds row
  row_from_stands [] [] [] e h = tt
  row_from_stands [] [] (y ∷ row) e h = absurd h
  row_from_stands [] (k ∷ kinds) row e h = absurd (cc)
  row_from_stands (x ∷ head) [] row e h = absurd (cc)
  row_from_stands (x ∷ head) (k ∷ kinds) [] e h = absurd h
  row_from_stands (x ∷ head) (k ∷ kinds) (y ∷ row) e h =
      let first : kind_here x ≡ Some k = cc in
      let rest : map kind_here head ≡ map Some kinds = cc in
      (subst (λ o. MayStand p o y) first h.0, row_from_stands head kinds row rest h.1)

  stands_from_row : (head : List Operand) (kinds : List Kind) (row : List Operand) → map kind_here head ≡ map Some kinds → AllZip (RowOperandFits p) kinds row →
      Stands p from head row
  stands_from_row [] [] [] e h = tt
  stands_from_row [] [] (y ∷ row) e h = absurd h
  stands_from_row [] (k ∷ kinds) row e h = absurd (cc)
  stands_from_row (x ∷ head) [] row e h = absurd (cc)
  stands_from_row (x ∷ head) (k ∷ kinds) [] e h = absurd h
  stands_from_row (x ∷ head) (k ∷ kinds) (y ∷ row) e h =
      let first : kind_here x ≡ Some k = cc in
      let rest : map kind_here head ≡ map Some kinds = cc in
      (subst (λ o. MayStand p o y) (sym first) h.0, stands_from_row head kinds row rest h.1)

module _ (p : Problem) (entry : ProblemEntry) where
  module _ (part : Part) (there : slice_get entry.query.parts 0 ≡ Some part) where
    head_is : (q : IsQueryIn p entry.query) → PartFits p.policy.schema (kinds_of p.policy.params) p.vars q.fits.kinds part
    head_is q = at_place (PartFits p.policy.schema (kinds_of p.policy.params) p.vars q.fits.kinds) entry.query.parts 0 part there q.fits.parts

    pub entry_from_stands : IsQueryIn p entry.query → Stands p part.from part.head entry.row → EntryFits p entry
    entry_from_stands q h = record { query = q; row = row_from_stands p part.from part.head q.fits.kinds entry.row (head_is q).head h }

    pub stands_from_entry : EntryFits p entry → Stands p part.from part.head entry.row
    stands_from_entry h = stands_from_row p part.from part.head h.query.fits.kinds entry.row (head_is h.query).head h.row

  -- a checked query has a part
  pub some_first : IsQueryIn p entry.query → slice_get entry.query.parts 0 ≢ None
  some_first q = first_is entry.query.parts q.fits.some_part
    where
      first_is : (parts : List Part) → parts ≢ [] → slice_get parts 0 ≢ None
      first_is [] some e = some refl
      first_is (part ∷ parts) some e = absurd (cc)

-- well formed, and of a checked policy
pub fits_from_parts : (p : Problem) → IsChecked p.policy → IsWellFormed p → ProblemFits p
fits_from_parts p policy h =
    record { links = policy.links; rules = policy.rules; policy = policy.policy_fits; goal = h.goal; entries = h.entries; assumed = h.assumed }

-- the test of the row decides whether the entry is well formed
pub row_tells : (p : Problem) (entry : ProblemEntry) (part : Part) (from : List ℕ) (head row : List Operand) (told : Bool) →
    slice_get entry.query.parts 0 ≡ Some part → IsQueryIn p entry.query → from ≡ part.from → head ≡ part.head → row ≡ entry.row →
    (IsTrue told ↔ Stands p from head row) → IsTrue told ↔ EntryFits p entry
row_tells p entry part from head row told there q f h r tells = (
  λ yes. entry_from_stands p entry part there q (subst (λ x. Stands p x part.head entry.row) f
      (subst (λ x. Stands p from x entry.row) h (subst (λ x. Stands p from head x) r (tells.0 yes)))),
  λ fits. tells.1 (subst (λ x. Stands p x head row) (sym f)
      (subst (λ x. Stands p part.from x row) (sym h) (subst (λ x. Stands p part.from part.head x) (sym r) (stands_from_entry p entry part there fits)))),
)

-- ---- the first part that isn't well formed
module _ {X : Type 0} (P : X → Type 0) (xs : List X) (found : Option ℕ) (h : FirstWithout P xs found) where
  pub without_at : (n : ℕ) → found ≡ Some n → IsFirstWithout P xs n
  without_at n e = subst (FirstWithout P xs) e h

  pub none_without : found ≡ None → All P xs
  none_without e = subst (FirstWithout P xs) e h

pub not_asked : (p : Problem) (q : Query) (told : Bool) → q ≡ p.goal → told ≡ false → (IsTrue told ↔ IsQueryIn p q) → ¬ (IsQueryIn p p.goal)
not_asked p q told e f h it = let t : IsTrue told = h.1 (subst (IsQueryIn p) (sym e) it) in cc
