-- Facts that are added, and rows of terms that stand for theirs.
use Rattle.std.proofs.Common.{◌≡◌, ◌∙◌, ℕ, zero, suc, ◌+◌, ◌<◌, ◌≤◌, List, [], ◌∷◌, ◌++◌, length, map, refl, ap, ap₂, sym, subst, append_assoc, arith}
use Rattle.std.proofs.lemmas.List.{append-nil, length-append, length-map, length_push}
use Rattle.std.proofs.lemmas.List.FromFn.{length-range_with_len}
use Rattle.std.proofs.lemmas.List.Elements.{All-cons, All-nil}
use Rattle.std.proofs.lemmas.Option.{slice_get-map}
use Rattle.std.specs.List.{flat_map, range_with_len}
use Rattle.std.specs.Option.{option_map}
use Rattle.std.specs.Prelude.{Some, option_and_then, slice_get, unwrap_or}
use Rattle.ba_model.specs.SchemaFaults.{columns_of}
use Rattle.ba_model.specs.declared.query.Operand.{Operand}
use Rattle.ba_model.specs.declared.query.Operand.TheVariants as operands
use Rattle.ba_model.specs.declared.schema.Schema.{Schema}
use Rattle.ba_facts.proofs.Elements.{get_append_old}
use Rattle.ba_facts.specs.Known.{Known}
use Rattle.ba_facts.specs.Knowing.{IsThere, sort_of}
use Rattle.ba_facts.specs.Matches.{term_of, terms_at}
use Rattle.ba_facts.specs.declared.branch.Branch.{Branch}
use Rattle.ba_facts.specs.declared.term.Fact.{Fact}
use Rattle.ba_facts.specs.declared.term.Side.{Side}
use Rattle.ba_facts.specs.declared.term.Sort.{Sort}
use Rattle.ba_facts.specs.declared.term.Term.{Term}
use Rattle.ba_facts.specs.declared.term.Term.TheVariants.{Unknown, Val, Param, Var}
use Rattle.ba_kernel.proofs.CaseFactLemmas.{first_terms, unknowns_from}
use Rattle.ba_kernel.specs.Effects.{rows_at, with_fact, with_facts}
use Rattle.ba_kernel.specs.Tidy.{AreAsWide}
use Rattle.ba_instant.specs.Windows.{AreLate}

-- ---- terms that stand for the unknowns in turn

-- by number for an unknown, a parameter for one past them, and each other term for itself
abbrev pub in_turn : List Term → Term → Term
in_turn all (Unknown n) = unwrap_or (slice_get all n) (Param 0)
in_turn all (Val v) = Val v
in_turn all (Param n) = Param n
in_turn all (Var n) = Var n

-- so many unknowns, each for itself, and then these
abbrev pub own_and : ℕ → List Term → List Term
own_and count images = unknowns_from 0 count ++ images

abbrev pub joined_rows : List (List Term) → List Term
joined_rows rows = flat_map (λ row. row) rows

pub unknown_at : (first count n : ℕ) → n < count → slice_get (unknowns_from first count) n ≡ Some (Unknown (first + n))
unknown_at first zero n below = absurd (omega (arith, below))
unknown_at first (suc count) zero below = ap (λ m. Some (Unknown m)) (let e : first ≡ first + 0 = omega arith in e)
unknown_at first (suc count) (suc n) below =
    unknown_at (first + 1) count n (omega (arith, below)) ∙ ap (λ m. Some (Unknown m)) (let e : first + 1 + n ≡ first + suc n = omega arith in e)

pub own_length : (count : ℕ) → length (unknowns_from 0 count) ≡ count
own_length count = length-map (range_with_len 0 count) Unknown ∙ length-range_with_len 0 count

-- a term that is there stands for itself
pub own_stays : (k : Known) (images : List Term) (t : Term) → IsThere k t → in_turn (own_and (length k.unknowns) images) t ≡ t
own_stays k images (Unknown n) there =
    let here = unknown_at 0 (length k.unknowns) n there ∙ ap (λ m. Some (Unknown m)) (let e : 0 + n ≡ n = omega arith in e) in
    ap (λ o. unwrap_or o (Param 0)) (get_append_old (unknowns_from 0 (length k.unknowns)) images n (Unknown n) here)
own_stays k images (Val v) there = refl
own_stays k images (Param n) there = refl
own_stays k images (Var n) there = refl

pub next_at : {X : Type 0} (before : List X) (t : X) (after : List X) → slice_get (before ++ t ∷ after) (length before) ≡ Some t
next_at [] t after = refl
next_at (u ∷ before) t after = next_at before t after

-- the terms of a row stand for unknowns that are numbered from where it begins
pub row_in_turn : (before row after : List Term) → map (in_turn (before ++ (row ++ after))) (unknowns_from (length before) (length row)) ≡ row
row_in_turn before [] after = refl
row_in_turn before (t ∷ row) after =
    let all = before ++ ((t ∷ row) ++ after) in
    let more = before ++ t ∷ [] in
    let rest : map (in_turn (more ++ (row ++ after))) (unknowns_from (length more) (length row)) ≡ row = row_in_turn more row after in
    let counted = subst (λ n. map (in_turn (more ++ (row ++ after))) (unknowns_from n (length row)) ≡ row) (length_push before t) rest in
    let others = subst (λ ts. map (in_turn ts) (unknowns_from (length before + 1) (length row)) ≡ row) (append_assoc before (t ∷ []) (row ++ after)) counted in
    ap₂ (λ z zs. z ∷ zs) (ap (λ o. unwrap_or o (Param 0)) (next_at before t (row ++ after))) others

-- ---- facts that are added

module _ (s : Schema) (side : Side) (round : ℕ) where
  abbrev new_fact : Branch → ℕ → Fact
  new_fact b table =
      record { side = side; table = table; terms = unknowns_from (length b.known.unknowns) (length (columns_of s.tables table)); round = round }

  abbrev pub sorts_for : List ℕ → List Sort
  sorts_for from = flat_map (λ table. map sort_of (columns_of s.tables table)) from

  pub unknowns_added : (from : List ℕ) (b : Branch) → (with_facts s side round b from).known.unknowns ≡ b.known.unknowns ++ sorts_for from
  unknowns_added [] b = sym (append-nil b.known.unknowns)
  unknowns_added (table ∷ from) b =
      unknowns_added from (with_fact s side round b table) ∙ append_assoc b.known.unknowns (map sort_of (columns_of s.tables table)) (sorts_for from)

  pub learned_same : (from : List ℕ) (b : Branch) → (with_facts s side round b from).known.learned ≡ b.known.learned
  learned_same [] b = refl
  learned_same (table ∷ from) b = learned_same from (with_fact s side round b table)

  pub goal_same : (from : List ℕ) (b : Branch) → (with_facts s side round b from).goal ≡ b.goal
  goal_same [] b = refl
  goal_same (table ∷ from) b = goal_same from (with_fact s side round b table)

  pub params_same : (from : List ℕ) (b : Branch) → (with_facts s side round b from).params ≡ b.params
  params_same [] b = refl
  params_same (table ∷ from) b = params_same from (with_fact s side round b table)

  pub vars_same : (from : List ℕ) (b : Branch) → (with_facts s side round b from).vars ≡ b.vars
  vars_same [] b = refl
  vars_same (table ∷ from) b = vars_same from (with_fact s side round b table)

  -- further facts of the round
  pub record NewFacts (b c : Branch) : Type 0 where
    pub facts : List Fact
    pub are : c.facts ≡ b.facts ++ facts
    pub late : AreLate round facts

  pub facts_added : (from : List ℕ) (b : Branch) → NewFacts b (with_facts s side round b from)
  facts_added [] b = record { facts = []; are = sym (append-nil b.facts); late = All-nil (λ (fact : Fact). round ≤ fact.round) }
  facts_added (table ∷ from) b =
      let it = new_fact b table in
      let rest = facts_added from (with_fact s side round b table) in
      record {
        facts = it ∷ rest.facts;
        are = rest.are ∙ append_assoc b.facts (it ∷ []) rest.facts;
        late = All-cons (λ (fact : Fact). round ≤ fact.round) it rest.facts (omega arith) rest.late;
      }

  -- ---- rows that stand for theirs

  pub rows_in_turn : (from : List ℕ) (rows : List (List Term)) (b : Branch) (before : List Term) → length before ≡ length b.known.unknowns → AreAsWide s from rows →
      map (map (in_turn (before ++ joined_rows rows))) (rows_at (with_facts s side round b from) (range_with_len (length b.facts) (length from))) ≡ rows
  rows_in_turn [] [] b before counted wide = refl
  rows_in_turn [] (row ∷ rows) b before counted wide = absurd wide
  rows_in_turn (table ∷ from) [] b before counted wide = absurd wide
  rows_in_turn (table ∷ from) (row ∷ rows) b before counted wide =
      let all = before ++ (row ++ joined_rows rows) in
      let it = new_fact b table in
      let mid = with_fact s side round b table in
      let end = with_facts s side round b (table ∷ from) in
      let width = length (columns_of s.tables table) in
      let here : map (in_turn all) (unknowns_from (length b.known.unknowns) width) ≡ row =
      subst (λ n. map (in_turn all) (unknowns_from n width) ≡ row) counted
      (subst (λ n. map (in_turn all) (unknowns_from (length before) n) ≡ row) wide.0 (row_in_turn before row (joined_rows rows))) in
      let first : map (in_turn all) (terms_at end (length b.facts)) ≡ row = ap (map (in_turn all)) (first_terms s side round from b table) ∙ here in
      let more : length (before ++ row) ≡ length mid.known.unknowns =
      omega (arith, length-append before row, length-append b.known.unknowns (map sort_of (columns_of s.tables table)), length-map (columns_of s.tables table) sort_of, counted, wide.0) in
      let rest = rows_in_turn from rows mid (before ++ row) more wide.1 in
      let counted_rest = subst (λ n. map (map (in_turn ((before ++ row) ++ joined_rows rows))) (rows_at end (range_with_len n (length from))) ≡ rows) (length_push b.facts it) rest in
      let others = subst (λ ts. map (map (in_turn ts)) (rows_at end (range_with_len (length b.facts + 1) (length from))) ≡ rows) (append_assoc before row (joined_rows rows)) counted_rest in
      ap₂ (λ (z : List Term) zs. z ∷ zs) first others

-- ---- operands of rows

-- what an operand stands for of the rows of those that stand for the terms
pub operand_in_turn : (all : List Term) (rows : List (List Term)) (x : Operand) (t : Term) → term_of rows x ≡ Some t → term_of (map (map (in_turn all)) rows) x ≡ Some (in_turn all t)
operand_in_turn all rows (operands.Col place column) t e = cell rows place e
  where
    cell : (rows : List (List Term)) (place : ℕ) → option_and_then (λ row. slice_get row column) (slice_get rows place) ≡ Some t →
        option_and_then (λ row. slice_get row column) (slice_get (map (map (in_turn all)) rows) place) ≡ Some (in_turn all t)
    cell [] place e = cc
    cell (row ∷ rows) zero e = slice_get-map (in_turn all) row column ∙ ap (option_map (in_turn all)) e
    cell (row ∷ rows) (suc place) e = cell rows place e
operand_in_turn all rows (operands.Val v) t e = let is : Val v ≡ t = cc in ap (λ u. Some (in_turn all u)) is
operand_in_turn all rows (operands.Param n) t e = let is : Param n ≡ t = cc in ap (λ u. Some (in_turn all u)) is
operand_in_turn all rows (operands.Var n) t e = let is : Var n ≡ t = cc in ap (λ u. Some (in_turn all u)) is
