-- What weaker entries give.
use Rattle.std.proofs.Common.{◌≡◌, ◌≢◌, ◌∙◌, ◌≤◌, ℕ, inl, inr, List, [], ◌∷◌, Some, None, map, length, refl, sym, ap, subst, arith}
use Rattle.std.proofs.lemmas.List.Elements.{All-cons, All-contains, All-nil, All-weaker}
use Rattle.std.specs.List.{All, AllZip, Contains}
use Rattle.std.specs.Prelude.{slice_get}
use Rattle.ba_comply.proofs.ComplyLemmas.{All-from_contains}
use Rattle.ba_comply.specs.declared.trace.TraceEntry.{TraceEntry}
use Rattle.ba_model.proofs.ElementLemmas.{Contains-cases, Contains-head, Contains-later, Contains-nil}
use Rattle.ba_model.specs.Fit.{AtomFits, IsQuery, PartFits, PartWithin, kind_of}
use Rattle.ba_model.specs.Limits.{most_atoms, most_head, most_part_tables, most_parts}
use Rattle.ba_model.specs.Meaning.{Holds, InAnswer, InPart, IsChoice, value_of}
use Rattle.ba_model.specs.declared.policy.Context.{Context}
use Rattle.ba_model.specs.declared.query.Atom.{Atom}
use Rattle.ba_model.specs.declared.query.Operand.{Operand}
use Rattle.ba_model.specs.declared.query.Part.{Part}
use Rattle.ba_model.specs.declared.query.Query.{Query}
use Rattle.ba_model.specs.declared.schema.Kind.{Kind}
use Rattle.ba_model.specs.declared.schema.Schema.{Schema}
use Rattle.ba_model.specs.declared.value.RowSet.{RowSet}
use Rattle.ba_model.specs.declared.value.Value.{Value}
use Rattle.ba_parts.proofs.RowLemmas.{chosen_within}
use Rattle.ba_parts.proofs.UnionLemmas.{to_alone}
use Rattle.ba_parts.specs.Parts.{Chosen, alone}
use Rattle.ba_parts.specs.Parts.Chosen.{nothing, taken, left_out}
use Rattle.ba_weaker.specs.Laws.{IsQueryAlike, WeakerHasRows, WeakerIsOnePart, WeakerIsQuery, WeakerIsShown, WeakerRowsProve}
use Rattle.ba_weaker.specs.Weaker.{HasCondition, IsAlike, IsCommon, IsShared, IsWeaker}

-- ---- chosen conditions

chosen_is : {X : Type 0} (P : X → Type 0) {xs ys : List X} (x : X) → Chosen P xs ys → Contains ys x → P x
chosen_is P x nothing there = absurd (Contains-nil x there)
chosen_is P x (taken {x = y} {xs = xs} {ys = ys} p more) there =
    elim (Contains-cases y ys x there) [
      | inl same ↦ subst P same p
      | inr later ↦ chosen_is P x more later
    ]
chosen_is P x (left_out {x = y} {xs = xs} {ys = ys} p more) there = chosen_is P x more there

chosen_short : {X : Type 0} (P : X → Type 0) {xs ys : List X} → Chosen P xs ys → length ys ≤ length xs
chosen_short P nothing = omega arith
chosen_short P (taken {x = y} {xs = xs} {ys = ys} p more) = let rest = chosen_short P more in omega (arith, rest)
chosen_short P (left_out {x = y} {xs = xs} {ys = ys} p more) = let rest = chosen_short P more in omega (arith, rest)

-- ---- rows

-- a part of the same tables and head, with these conditions and more, gives no other rows
given_by : (other part : Part) (c : Context) (d : RowSet) (r : List Value) → other.from ≡ part.from → other.head ≡ part.head → ((atom : Atom) → Contains part.conds atom → Contains other.conds atom) →
    InPart c d other r → InPart c d part r
given_by other part c d r from head kept (rows, chosen, gives) = (
  rows,
  subst (λ f. IsChoice d f rows) from chosen,
  record {
    conds = All-from_contains (Holds c rows) part.conds (λ atom there. All-contains (Holds c rows) other.conds atom gives.conds (kept atom there));
    head = subst (λ (h : List Operand). map (value_of c rows) h ≡ map Some r) head gives.head;
  },
)

-- the conditions of the common part are those of each part
of_first : (q : Query) (part : Part) (h : IsCommon q part) (atom : Atom) → Contains part.conds atom → Contains h.first.conds atom
of_first q part h atom there = chosen_within (IsShared h.others) atom h.conds there

its_condition : (atom : Atom) (part : Part) → HasCondition atom part → Contains part.conds atom
unfolding HasCondition
its_condition atom part h = h

of_other : (q : Query) (part : Part) (h : IsCommon q part) (other : Part) → Contains h.others other → (atom : Atom) → Contains part.conds atom → Contains other.conds atom
of_other q part h other is atom there =
    its_condition atom other (All-contains (HasCondition atom) h.others other (chosen_is (IsShared h.others) atom h.conds there) is)

-- a row of the question is one of the common part
in_common : (q : Query) (part : Part) (c : Context) (d : RowSet) (r : List Value) → IsCommon q part → InAnswer q c d r → InPart c d part r
in_common q part c d r h (other, there, given) =
    elim (Contains-cases h.first h.others other (subst (λ l. Contains l other) h.are.parts there)) [
      | inl same ↦
          given_by h.first part c d r (sym h.alike.from) (sym h.alike.head) (of_first q part h) (subst (λ (p : Part). InPart c d p r) (sym same) given)
      | inr later ↦
          let its : IsAlike h.first other = All-contains (IsAlike h.first) h.others other h.are.alike later in
          given_by other part c d r (its.from ∙ sym h.alike.from) (its.head ∙ sym h.alike.head) (of_other q part h other later) given
    ]

pub weaker_has_rows : WeakerHasRows
weaker_has_rows q weaker c d h r there = subst (λ (w : Query). InAnswer w c d r) (sym h.is_alone) (to_alone h.part c d r (in_common q h.part c d r h.common there))

-- ---- traces

row_shown : (entry weaker : TraceEntry) (c : Context) (d : RowSet) → IsWeaker entry weaker → (r : List Value) → InAnswer entry.query c d r → InAnswer weaker.query c d r
row_shown entry weaker c d h r there =
    elim h.query [
      | inl less ↦ weaker_has_rows entry.query weaker.query c d less r there
      | inr stays ↦ subst (λ (q : Query). InAnswer q c d r) (sym stays.same) there
    ]

entry_shown : (entry weaker : TraceEntry) (c : Context) (d : RowSet) → IsWeaker entry weaker → All (InAnswer entry.query c d) entry.rows → All (InAnswer weaker.query c d) weaker.rows
entry_shown entry weaker c d h shown =
    subst (All (InAnswer weaker.query c d)) (sym h.rows) (All-weaker (InAnswer entry.query c d) (InAnswer weaker.query c d) (row_shown entry weaker c d h) entry.rows shown)

pub its_left : {A B : Type 0} (R : A → B → Type 0) (xs : List A) (ys : List B) (y : B) → AllZip R xs ys → Contains ys y → (x : A) × Contains xs x × R x y
its_left R [] [] y h there = absurd (Contains-nil y there)
its_left R [] (z ∷ ys) y h there = absurd h
its_left R (x ∷ xs) [] y h there = absurd h
its_left R (x ∷ xs) (z ∷ ys) y h there =
    elim (Contains-cases z ys y there) [
      | inl same ↦ (x, Contains-head x xs, subst (R x) same h.0)
      | inr later ↦ let rest = its_left R xs ys y h.1 later in (rest.0, Contains-later x xs rest.0 rest.1, rest.2)
    ]

pub weaker_is_shown : WeakerIsShown
weaker_is_shown trace weaker c d h shown =
    record {
      entries = All-from_contains (λ (entry : TraceEntry). All (InAnswer entry.query c d) entry.rows) weaker (λ entry there.
          let its = its_left IsWeaker trace weaker entry h there in
          entry_shown its.0 entry c d its.2 (All-contains (λ (e : TraceEntry). All (InAnswer e.query c d) e.rows) trace its.0 shown.entries its.1));
    }

pub weaker_rows_prove : WeakerRowsProve
weaker_rows_prove policy c trace weaker q h strong =
    record { within = λ d e cd ce within shown. strong.within d e cd ce within (weaker_is_shown trace weaker c d h shown) }

-- ---- questions

all_of_one : (P : Part → Type 0) (part : Part) → P part → All P (part ∷ [])
all_of_one P part h = All-cons P part [] h (All-nil P)

some_part : (part : Part) → part ∷ [] ≡ [] → ⊥
some_part part e = cc

few_parts : (part : Part) → length (part ∷ []) ≤ most_parts
few_parts part = omega arith

common_fits : (s : Schema) (params vars kinds : List Kind) (q : Query) (part : Part) → IsCommon q part → All (PartFits s params vars kinds) q.parts → PartFits s params vars kinds part
common_fits s params vars kinds q part h fit =
    let first : PartFits s params vars kinds h.first =
    All-contains (PartFits s params vars kinds) q.parts h.first fit (subst (λ l. Contains l h.first) (sym h.are.parts) (Contains-head h.first h.others)) in
    let conds : (atom : Atom) → Contains part.conds atom → AtomFits s params vars h.first.from atom = λ atom there. All-contains (AtomFits s params vars h.first.from) h.first.conds atom first.conds (of_first q part h atom there) in
    record {
      some_table = λ e. first.some_table (sym h.alike.from ∙ e);
      tables = subst (λ (f : List ℕ). All (λ t. slice_get s.tables t ≢ None) f) (sym h.alike.from) first.tables;
      conds = All-from_contains (AtomFits s params vars part.from) part.conds (λ atom there. subst (λ (f : List ℕ). AtomFits s params vars f atom) (sym h.alike.from) (conds atom there));
      head = subst (λ (f : List ℕ). map (kind_of s params vars f) part.head ≡ map Some kinds) (sym h.alike.from)
          (subst (λ (l : List Operand). map (kind_of s params vars h.first.from) l ≡ map Some kinds) (sym h.alike.head) first.head);
    }

common_within : (q : Query) (part : Part) → IsCommon q part → All PartWithin q.parts → PartWithin part
common_within q part h within =
    let first : PartWithin h.first = All-contains PartWithin q.parts h.first within (subst (λ l. Contains l h.first) (sym h.are.parts) (Contains-head h.first h.others)) in
    let short : length part.conds ≤ length h.first.conds = chosen_short (IsShared h.others) h.conds in
    let few : length h.first.conds ≤ most_atoms = first.conds in
    record {
      tables = subst (λ (f : List ℕ). length f ≤ most_part_tables) (sym h.alike.from) first.tables;
      conds = omega (arith, short, few);
      head = subst (λ (l : List Operand). length l ≤ most_head) (sym h.alike.head) first.head;
    }

common_is_query : (s : Schema) (params vars : List Kind) (q : Query) (part : Part) (h : IsQuery s params vars q) → IsCommon q part → IsQueryAlike s params vars q (alone part) h
common_is_query s params vars q part h common =
    record {
      is_query_too =
          record {
            fits =
                record {
                  kinds = h.fits.kinds;
                  some_kind = h.fits.some_kind;
                  some_part = some_part part;
                  parts = all_of_one (PartFits s params vars h.fits.kinds) part (common_fits s params vars h.fits.kinds q part common h.fits.parts);
                };
            few_parts = few_parts part;
            within = all_of_one PartWithin part (common_within q part common h.within);
          };
      kinds = refl;
    }

pub weaker_is_query : WeakerIsQuery
weaker_is_query s params vars q weaker h is =
    subst (λ (w : Query). IsQueryAlike s params vars q w h) (sym is.is_alone) (common_is_query s params vars q is.part h is.common)

one_long : (part : Part) → length (part ∷ []) ≡ 1
one_long part = omega arith

pub weaker_is_one_part : WeakerIsOnePart
weaker_is_one_part q weaker h = ap (λ (w : Query). length w.parts) h.is_alone ∙ one_long h.part
