-- The template of a proof matches the proof's own question after its trace.
use Rattle.std.proofs.Common.{◌≡◌, ℕ, zero, suc, ◌⊎◌, inl, inr, List, [], ◌∷◌, ◌++◌, map, refl, sym, ap, ap₂, ◌∙◌, subst}
use Rattle.std.proofs.lemmas.Option.{same_Some}
use Rattle.std.specs.Prelude.{Option, Some, None, slice_get}
use Rattle.std.specs.List.{AllZip, flat_map}
use Rattle.ba_comply.specs.declared.trace.TraceEntry.{TraceEntry}
use Rattle.ba_facts.specs.Fits.{Instance}
use Rattle.ba_kernel.specs.Problems.{entries_of, fixed_value, operand_at, variable_at}
use Rattle.ba_kernel.specs.declared.problem.Problem.{Problem}
use Rattle.ba_kernel.specs.declared.problem.ProblemEntry.{ProblemEntry}
use Rattle.ba_model.specs.declared.query.Operand.{Operand}
use Rattle.ba_model.specs.declared.query.Operand.TheVariants.{Col, Val, Param, Var}
use Rattle.ba_model.specs.declared.query.Query.{Query}
use Rattle.ba_model.specs.declared.value.Value.{Value}
use Rattle.ba_template.specs.Found.{StandsAt, with_values}
use Rattle.ba_template.specs.declared.found.Match.{Match}
use Rattle.ba_general.specs.Generals.{OwnQuestionMatches}
use Rattle.ba_general.specs.Patterns.{entry_at}

-- ---- the rows of a trace

abbrev entry_of : Query → List Value → ProblemEntry
entry_of q row = record { query = q; row = map Val row }

-- the entry is of one of the query's rows
record IsOfRow (q : Query) (rows : List (List Value)) (entry : ProblemEntry) : Type 0 where
  number : ℕ
  row : List Value
  row_is : slice_get rows number ≡ Some row
  entry_is : entry ≡ entry_of q row

among_rows : (q : Query) (rows : List (List Value)) (others : List ProblemEntry) (n : ℕ) (entry : ProblemEntry) →
    slice_get (map (entry_of q) rows ++ others) n ≡ Some entry → IsOfRow q rows entry ⊎ ((m : ℕ) × (slice_get others m ≡ Some entry))
among_rows q [] others n entry e = inr (n, e)
among_rows q (row ∷ rows) others zero entry e = inl (record { number = 0; row = row; row_is = refl; entry_is = sym (same_Some (entry_of q row) entry e) })
among_rows q (row ∷ rows) others (suc n) entry e =
    elim (among_rows q rows others n entry e) [
      | inl w ↦ inl (record { number = suc w.number; row = w.row; row_is = w.row_is; entry_is = w.entry_is })
      | inr w ↦ inr w
    ]

record IsShown (trace : List TraceEntry) (entry : ProblemEntry) : Type 0 where
  place : ℕ
  of : TraceEntry
  of_is : slice_get trace place ≡ Some of
  row_of : IsOfRow of.query of.rows entry

shown : (trace : List TraceEntry) (n : ℕ) (entry : ProblemEntry) → slice_get (flat_map entries_of trace) n ≡ Some entry → IsShown trace entry
shown [] n entry e = absurd (let no : ⊥ = cc in no)
shown (it ∷ trace) n entry e =
    elim (among_rows it.query it.rows (flat_map entries_of trace) n entry e) [
      | inl w ↦ record { place = 0; of = it; of_is = refl; row_of = w }
      | inr w ↦ let h = shown trace w.0 entry w.1 in record { place = suc h.place; of = h.of; of_is = h.of_is; row_of = h.row_of }
    ]

-- ---- values of rows

variable_is : (n : ℕ) (found : Option Value) (v : Value) → variable_at n found ≡ Val v → found ≡ Some v
variable_is n None v e = absurd (let no : ⊥ = cc in no)
variable_is n (Some w) v e = let same : w ≡ v = cc in ap Some same

module _ (i : Instance) where
  operand_fixed : (o : Operand) (v : Value) → operand_at i.vars o ≡ Val v → fixed_value i o ≡ Some v
  operand_fixed (Col place column) v e = absurd (let no : ⊥ = cc in no)
  operand_fixed (Val w) v e = let same : w ≡ v = cc in ap Some same
  operand_fixed (Param n) v e = absurd (let no : ⊥ = cc in no)
  operand_fixed (Var n) v e = variable_is n (slice_get i.vars n) v e

  row_fixed : (os : List Operand) (row : List Value) → map (operand_at i.vars) os ≡ map Val row → map (fixed_value i) os ≡ map Some row
  row_fixed [] [] e = refl
  row_fixed [] (v ∷ row) e = absurd (let no : ⊥ = cc in no)
  row_fixed (o ∷ os) [] e = absurd (let no : ⊥ = cc in no)
  row_fixed (o ∷ os) (v ∷ row) e =
      let here : operand_at i.vars o ≡ Val v = cc in
      let behind : map (operand_at i.vars) os ≡ map Val row = cc in
      ap₂ (λ x xs. x ∷ xs) (operand_fixed o v here) (row_fixed os row behind)

  stands : (trace : List TraceEntry) (entry own : ProblemEntry) → entry_at i.vars entry ≡ own → IsShown trace own → (place : ℕ × ℕ) × StandsAt i trace entry place
  stands trace entry own same h =
      let w = h.row_of in
      let e : entry_at i.vars entry ≡ entry_of h.of.query w.row = same ∙ w.entry_is in (
        (h.place, w.number),
        record {
          of = h.of;
          row = w.row;
          entry_is = h.of_is;
          row_is = w.row_is;
          query = sym (ap (λ (x : ProblemEntry). x.query) e);
          values = row_fixed entry.row w.row (ap (λ (x : ProblemEntry). x.row) e);
        },
      )

  all_stand : (trace : List TraceEntry) (entries : List ProblemEntry) (numbers : List ℕ) →
      map (λ entry. Some (entry_at i.vars entry)) entries ≡ map (slice_get (flat_map entries_of trace)) numbers → (places : List (ℕ × ℕ)) × AllZip (StandsAt i trace) entries places
  all_stand trace [] numbers e = ([], tt)
  all_stand trace (entry ∷ entries) [] e = absurd (let no : ⊥ = cc in no)
  all_stand trace (entry ∷ entries) (n ∷ numbers) e =
      let here : Some (entry_at i.vars entry) ≡ slice_get (flat_map entries_of trace) n = cc in
      let behind : map (λ x. Some (entry_at i.vars x)) entries ≡ map (slice_get (flat_map entries_of trace)) numbers = cc in
      let one = stands trace entry (entry_at i.vars entry) refl (shown trace n (entry_at i.vars entry) (sym here)) in
      let others = all_stand trace entries numbers behind in
      (one.0 ∷ others.0, (one.1, others.1))

pub own_matches : OwnQuestionMatches
own_matches proof template own it =
    let policy : template.problem.policy ≡ proof.problem.policy = ap (λ (p : Problem). p.policy) it.problem ∙ it.keeps.pattern.policy in
    let shown_are : proof.problem.entries ≡ flat_map entries_of own.trace = ap (λ (p : Problem). p.entries) own.is in
    let places =
    all_stand (with_values own.context own.values) own.trace template.problem.entries own.numbers
    (subst (λ all. map (λ entry. Some (entry_at own.values entry)) template.problem.entries ≡ map (slice_get all) own.numbers) shown_are own.entries) in
    let found : Match = record { values = own.values; places = places.0 } in
    (found, record { policy_is = policy; kinds = own.instance.vars; question = own.question; places = places.1; condition = own.instance.assumed })
