-- Terms that are there, and operands that have one.
use Rattle.std.proofs.Common.{◌≡◌, ℕ, zero, suc, ◌+◌, ◌<◌, ◌≤◌, List, [], ◌∷◌, length, map, refl, sym, ap, ◌∙◌, subst, arith, length-append}
use Rattle.std.proofs.lemmas.List.{length-map, length_push}
use Rattle.std.proofs.lemmas.List.FromFn.{length-range_with_len}
use Rattle.std.proofs.lemmas.List.Elements.{All-cons, All-head, All-nil, All-push, All-tail, All-weaker}
use Rattle.std.proofs.lemmas.Option.{get_or_from_slice_get, slice_get_within}
use Rattle.std.specs.List.{All, range_with_len}
use Rattle.std.specs.Prelude.{Option, Some, None, option_and_then, slice_get, unwrap_or}
use Rattle.std.specs.Option.{option_map}
use Rattle.ba_model.specs.Fit.{AtomFits, column_kind, kind_of}
use Rattle.ba_model.specs.SchemaFaults.{columns_of, columns_or}
use Rattle.ba_model.specs.declared.query.Atom.{Atom}
use Rattle.ba_model.specs.declared.query.Operand.{Operand}
use Rattle.ba_model.specs.declared.query.Operand.TheVariants.{Col, Val, Param, Var}
use Rattle.ba_model.specs.declared.schema.Column.{Column}
use Rattle.ba_model.specs.declared.schema.Kind.{Kind}
use Rattle.ba_model.specs.declared.schema.Schema.{Schema}
use Rattle.ba_model.specs.declared.schema.Table.{Table}
use Rattle.ba_kernel.proofs.CaseFactLemmas.{first_terms}
use Rattle.ba_kernel.specs.Effects.{rows_at, with_fact, with_facts, with_lessons}
use Rattle.ba_facts.specs.Known.{Known}
use Rattle.ba_facts.specs.Knowing.{IsThere, sort_of}
use Rattle.ba_facts.specs.Matches.{term_of, terms_at}
use Rattle.ba_kernel.specs.Tidy.{AreAsWide, FactsAreThere, HasTerm, HasTerms, IsAsWide, Learns, TermsAreThere}
use Rattle.ba_facts.specs.declared.branch.Branch.{Branch}
use Rattle.ba_facts.specs.declared.term.Fact.{Fact}
use Rattle.ba_facts.specs.declared.term.Lesson.{Lesson}
use Rattle.ba_facts.specs.declared.term.Side.{Side}
use Rattle.ba_facts.specs.declared.term.Term.{Term}
use Rattle.ba_facts.specs.declared.term.Term.TheVariants as terms

-- ---- terms that are there

pub there_more : (k l : Known) → length k.unknowns ≤ length l.unknowns → (t : Term) → IsThere k t → IsThere l t
there_more k l more (terms.Unknown n) h = omega arith
there_more k l more (terms.Val v) h = tt
there_more k l more (terms.Param n) h = tt
there_more k l more (terms.Var n) h = tt

pub row_there_more : (k l : Known) → length k.unknowns ≤ length l.unknowns → (ts : List Term) → TermsAreThere k ts → TermsAreThere l ts
row_there_more k l more ts h = All-weaker (IsThere k) (IsThere l) (there_more k l more) ts h

pub new_there : (k : Known) (first count : ℕ) → first + count ≤ length k.unknowns → TermsAreThere k (map terms.Unknown (range_with_len first count))
new_there k first zero h = All-nil (IsThere k)
new_there k first (suc count) h =
    let below : first < length k.unknowns = omega arith in
    let rest : (first + 1) + count ≤ length k.unknowns = omega arith in
    All-cons (IsThere k) (terms.Unknown first) (map terms.Unknown (range_with_len (first + 1) count)) below (new_there k (first + 1) count rest)

abbrev FactIsThere : Known → Fact → Type 0
FactIsThere k fact = TermsAreThere k fact.terms

module _ (s : Schema) (side : Side) (round : ℕ) where
  pub more_unknowns : (b : Branch) (table : ℕ) → length b.known.unknowns ≤ length (with_fact s side round b table).known.unknowns
  more_unknowns b table = omega (arith, length-append b.known.unknowns (map sort_of (columns_of s.tables table)))

  pub counted : (b : Branch) (table : ℕ) → length b.known.unknowns + length (columns_of s.tables table) ≤ length (with_fact s side round b table).known.unknowns
  counted b table =
      omega (arith, length-append b.known.unknowns (map sort_of (columns_of s.tables table)), length-map (columns_of s.tables table) sort_of)

  fact_there : (b : Branch) (table : ℕ) → FactsAreThere b → FactsAreThere (with_fact s side round b table)
  fact_there b table h =
      let new = with_fact s side round b table in
      let it : Fact = record { side = side; table = table; terms = map terms.Unknown (range_with_len (length b.known.unknowns) (length (columns_of s.tables table))); round = round } in
      record {
        facts =
            All-push (FactIsThere new.known) b.facts it
            (All-weaker (FactIsThere b.known) (FactIsThere new.known) (λ fact. row_there_more b.known new.known (more_unknowns b table) fact.terms) b.facts h.facts)
            (new_there new.known (length b.known.unknowns) (length (columns_of s.tables table)) (counted b table));
      }

  pub facts_there : (from : List ℕ) (b : Branch) → FactsAreThere b → FactsAreThere (with_facts s side round b from)
  facts_there [] b h = h
  facts_there (table ∷ from) b h = facts_there from (with_fact s side round b table) (fact_there b table h)

  pub unknowns_kept : (from : List ℕ) (b : Branch) → length b.known.unknowns ≤ length (with_facts s side round b from).known.unknowns
  unknowns_kept [] b = omega arith
  unknowns_kept (table ∷ from) b = let later = unknowns_kept from (with_fact s side round b table) in let here = more_unknowns b table in omega arith

  -- each new fact is as wide as its table
  pub facts_wide : (from : List ℕ) (b : Branch) → AreAsWide s from (rows_at (with_facts s side round b from) (range_with_len (length b.facts) (length from)))
  facts_wide [] b = tt
  facts_wide (table ∷ from) b =
      let it : Fact = record { side = side; table = table; terms = map terms.Unknown (range_with_len (length b.known.unknowns) (length (columns_of s.tables table))); round = round } in
      let all = with_facts s side round b (table ∷ from) in
      let first : IsAsWide s table (terms_at all (length b.facts)) =
      ap length (first_terms s side round from b table) ∙ (length-map (range_with_len (length b.known.unknowns) (length (columns_of s.tables table))) terms.Unknown ∙
      length-range_with_len (length b.known.unknowns) (length (columns_of s.tables table))) in
      let rest = facts_wide from (with_fact s side round b table) in
      (first, subst (λ n. AreAsWide s from (rows_at all (range_with_len n (length from)))) (length_push b.facts it) rest)

-- what is learned leaves what is there
pub learns_there : (found : List (Option Lesson)) (old new : Branch) → Learns found old new → FactsAreThere old → FactsAreThere new
learns_there found old new h there =
    subst FactsAreThere (sym h.new_is)
    (record {
      facts = All-weaker (FactIsThere old.known) (FactIsThere (with_lessons old h.lessons).known)
          (λ fact. row_there_more old.known (with_lessons old h.lessons).known (omega arith) fact.terms) old.facts there.facts;
    })

pub learns_unknowns : (found : List (Option Lesson)) (old new : Branch) → Learns found old new → length old.known.unknowns ≡ length new.known.unknowns
learns_unknowns found old new h = ap (λ (b : Branch). length b.known.unknowns) (sym h.new_is)

-- ---- operands

at_terms : (k : Known) (o : Option Fact) → ((fact : Fact) → o ≡ Some fact → TermsAreThere k fact.terms) → TermsAreThere k (unwrap_or (option_map (λ (fact : Fact). fact.terms) o) [])
at_terms k None h = All-nil (IsThere k)
at_terms k (Some fact) h = h fact refl

pub terms_there : (b : Branch) (n : ℕ) → FactsAreThere b → TermsAreThere b.known (terms_at b n)
terms_there b n h =
    at_terms b.known (slice_get b.facts n)
    (λ fact is. subst (FactIsThere b.known) (get_or_from_slice_get b.facts n fact fact is) (h.facts n fact (slice_get_within b.facts n fact is)))

cell_there : (k : Known) (rows : List (List Term)) (place column : ℕ) (t : Term) → All (TermsAreThere k) rows →
    option_and_then (λ row. slice_get row column) (slice_get rows place) ≡ Some t → IsThere k t
cell_there k [] place column t h e = cc
cell_there k (row ∷ rows) zero column t h e =
    let there = All-head (TermsAreThere k) row rows h in
    subst (IsThere k) (get_or_from_slice_get row column t t e) (there column t (slice_get_within row column t e))
cell_there k (row ∷ rows) (suc place) column t h e = cell_there k rows place column t (All-tail (TermsAreThere k) row rows h) e

pub operand_there : (k : Known) (rows : List (List Term)) (x : Operand) (t : Term) → All (TermsAreThere k) rows → term_of rows x ≡ Some t → IsThere k t
operand_there k rows (Col place column) t h e = cell_there k rows place column t h e
operand_there k rows (Val v) t h e = subst (IsThere k) (let is : terms.Val v ≡ t = cc in is) tt
operand_there k rows (Param n) t h e = subst (IsThere k) (let is : terms.Param n ≡ t = cc in is) tt
operand_there k rows (Var n) t h e = subst (IsThere k) (let is : terms.Var n ≡ t = cc in is) tt

rows_there : (b : Branch) (facts : List ℕ) → FactsAreThere b → All (TermsAreThere b.known) (rows_at b facts)
rows_there b [] h = All-nil (TermsAreThere b.known)
rows_there b (n ∷ facts) h = All-cons (TermsAreThere b.known) (terms_at b n) (rows_at b facts) (terms_there b n h) (rows_there b facts h)

pub term_there : (b : Branch) (facts : List ℕ) (x : Operand) (t : Term) → FactsAreThere b → term_of (rows_at b facts) x ≡ Some t → IsThere b.known t
term_there b facts x t h e = operand_there b.known (rows_at b facts) x t (rows_there b facts h) e

-- ---- operands that fit have a term

get_wide : {X Y : Type 0} (xs : List X) (ys : List Y) (n : ℕ) (y : Y) → length xs ≡ length ys → slice_get ys n ≡ Some y → (x : X) × (slice_get xs n ≡ Some x)
get_wide [] [] n y e is = cc
get_wide [] (z ∷ ys) n y e is = absurd (omega arith)
get_wide (x ∷ xs) [] n y e is = cc
get_wide (x ∷ xs) (z ∷ ys) zero y e is = (x, refl)
get_wide (x ∷ xs) (z ∷ ys) (suc n) y e is = get_wide xs ys n y (omega arith) is

column_there : (o : Option Table) (column : ℕ) (k : Kind) → option_and_then (λ (it : Table). option_map (λ (found : Column). found.kind) (slice_get it.columns column)) o ≡ Some k →
    (it : Column) × (slice_get (columns_or o) column ≡ Some it)
column_there None column k e = cc
column_there (Some table) column k e = at (slice_get table.columns column) e
  where
    at : (o : Option Column) → option_map (λ (found : Column). found.kind) o ≡ Some k → (it : Column) × (o ≡ Some it)
    at None e = cc
    at (Some it) e = (it, refl)

has_cell : (s : Schema) (from : List ℕ) (rows : List (List Term)) (place column : ℕ) (k : Kind) → AreAsWide s from rows →
    option_and_then (λ table. column_kind s table column) (slice_get from place) ≡ Some k →
    (t : Term) × (option_and_then (λ row. slice_get row column) (slice_get rows place) ≡ Some t)
has_cell s [] rows place column k h e = cc
has_cell s (table ∷ from) [] place column k h e = absurd h
has_cell s (table ∷ from) (row ∷ rows) zero column k h e =
    let there = column_there (slice_get s.tables table) column k e in
    get_wide row (columns_of s.tables table) column there.0 h.0 there.1
has_cell s (table ∷ from) (row ∷ rows) (suc place) column k h e = has_cell s from rows place column k h.1 e

module _ (s : Schema) (params vars : List Kind) (from : List ℕ) (rows : List (List Term)) (wide : AreAsWide s from rows) where
  pub has_term : (x : Operand) (k : Kind) → kind_of s params vars from x ≡ Some k → HasTerm rows x
  has_term (Col place column) k e = let h = has_cell s from rows place column k wide e in record { term = h.0; is = h.1 }
  has_term (Val v) k e = record { term = terms.Val v; is = refl }
  has_term (Param n) k e = record { term = terms.Param n; is = refl }
  has_term (Var n) k e = record { term = terms.Var n; is = refl }

  pub have_terms : (xs : List Operand) (kinds : List Kind) → map (kind_of s params vars from) xs ≡ map Some kinds → All (HasTerm rows) xs
  have_terms [] kinds e = All-nil (HasTerm rows)
  have_terms (x ∷ xs) [] e = cc
  have_terms (x ∷ xs) (k ∷ kinds) e =
      All-cons (HasTerm rows) x xs (has_term x k (let here : kind_of s params vars from x ≡ Some k = cc in here))
      (have_terms xs kinds (let rest : map (kind_of s params vars from) xs ≡ map Some kinds = cc in rest))

  pub atoms_have_terms : (conds : List Atom) → All (AtomFits s params vars from) conds → All (HasTerms rows) conds
  atoms_have_terms conds h =
      All-weaker (AtomFits s params vars from) (HasTerms rows)
      (λ atom fits. record { left = has_term atom.left fits.kind fits.left_is; right = has_term atom.right fits.kind fits.right_is }) conds h
