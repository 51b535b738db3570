-- What the steps that build a part's case need, in their order.
use Rattle.std.proofs.Common.{◌≡◌, ℕ, List, length, map, ap, ap₂, sym, ◌∙◌, subst, arith}
use Rattle.std.specs.List.{All, range_with_len, zip}
use Rattle.std.specs.Prelude.{Option}
use Rattle.ba_model.specs.declared.query.Atom.{Atom}
use Rattle.ba_model.specs.declared.query.Operand.{Operand}
use Rattle.ba_model.specs.declared.query.Part.{Part}
use Rattle.ba_model.specs.declared.schema.Schema.{Schema}
use Rattle.ba_kernel.proofs.BuildLemmas.{is_case, rows_kept}
use Rattle.ba_kernel.proofs.TidyLemmas.{atoms_have_terms, facts_there, facts_wide, have_terms, learns_there, learns_unknowns, row_there_more, unknowns_kept}
use Rattle.ba_kernel.specs.Effects.{IsCase, lesson_of, rows_at, same_of, with_facts}
use Rattle.ba_kernel.specs.Tidy.{AreAsWide, FactsAreThere, HasTerm, HasTerms, IsPartFor, Learns, TermsAreThere}
use Rattle.ba_facts.specs.declared.branch.Branch.{Branch}
use Rattle.ba_facts.specs.declared.term.Lesson.{Lesson}
use Rattle.ba_facts.specs.declared.term.Side.{Side}
use Rattle.ba_facts.specs.declared.term.Term.{Term}

-- the numbers of a part's new facts
abbrev pub new_numbers : Branch → Part → List ℕ
new_numbers old part = range_with_len (length old.facts) (length part.from)

module _ (s : Schema) (side : Side) (round : ℕ) (old : Branch) (part : Part) where
  abbrev with_rows : Branch
  with_rows = with_facts s side round old part.from

  pub added : (copy new : Branch) (from : List ℕ) → copy ≡ old → from ≡ part.from → new ≡ with_facts s side round copy from → new ≡ with_facts s side round old part.from
  added copy new from same from_is e = e ∙ ap₂ (with_facts s side round) same from_is

  pub numbered : (numbers facts : List ℕ) (first count : ℕ) → first ≡ length old.facts → count ≡ length part.from → numbers ≡ range_with_len first count →
      facts ≡ numbers → facts ≡ new_numbers old part
  numbered numbers facts first count a b e f = f ∙ (e ∙ ap₂ range_with_len a b)

  module _ (new : Branch) (facts : List ℕ) (new_is : new ≡ with_facts s side round old part.from) (facts_are : facts ≡ new_numbers old part) where
    rows_are : rows_at with_rows (new_numbers old part) ≡ rows_at new facts
    rows_are = sym (ap₂ rows_at new_is facts_are)

    wide : AreAsWide s part.from (rows_at new facts)
    wide = subst (AreAsWide s part.from) rows_are (facts_wide s side round part.from old)

    pub there : FactsAreThere old → FactsAreThere new
    there h = subst FactsAreThere (sym new_is) (facts_there s side round part.from old h)

    module _ (width : ℕ) (fits : IsPartFor s width part) where
      pub atoms : (conds : List Atom) → conds ≡ part.conds → All (HasTerms (rows_at new facts)) conds
      atoms conds same =
          subst (All (HasTerms (rows_at new facts))) (sym same)
          (atoms_have_terms s fits.params fits.vars part.from (rows_at new facts) wide part.conds (fits.fits).conds)

      pub heads : (head : List Operand) → head ≡ part.head → All (HasTerm (rows_at new facts)) head
      heads head same =
          subst (All (HasTerm (rows_at new facts))) (sym same)
          (have_terms s fits.params fits.vars part.from (rows_at new facts) wide part.head fits.kinds (fits.fits).head)

      module _ (found : List (Option Lesson)) (mid : Branch) (learns : Learns found new mid) where
        pub heads_after : (head : List Operand) → head ≡ part.head → All (HasTerm (rows_at mid facts)) head
        heads_after head same = subst (λ rows. All (HasTerm rows) head) (sym (rows_kept found new mid facts learns)) (heads head same)

        pub row_after : (row : List Term) → TermsAreThere old.known row → TermsAreThere mid.known row
        row_after row h =
            let more = unknowns_kept s side round part.from old in
            let same : length new.known.unknowns ≡ length with_rows.known.unknowns = ap (λ (b : Branch). length b.known.unknowns) new_is in
            let kept = learns_unknowns found new mid learns in
            row_there_more old.known mid.known (omega arith) row h

    pub there_after : (found : List (Option Lesson)) (mid : Branch) → Learns found new mid → FactsAreThere old → FactsAreThere mid
    there_after found mid learns h = learns_there found new mid learns (there h)

    pub case_is : (mid last : Branch) (conds : List Atom) (head : List Operand) (row : List Term) → conds ≡ part.conds → head ≡ part.head → length head ≡ length row →
        Learns (map (lesson_of (rows_at new facts)) conds) new mid → Learns (map (same_of (rows_at mid facts)) (zip head row)) mid last →
        IsCase s old side round row part last
    case_is mid last conds head row conds_are head_is same_width atoms heads =
        is_case s old mid last side round row part facts (subst (λ (xs : List Operand). length xs ≡ length row) head_is same_width) facts_are
        (subst (λ b. Learns (map (lesson_of (rows_at b facts)) part.conds) b mid) new_is (subst (λ xs. Learns (map (lesson_of (rows_at new facts)) xs) new mid) conds_are atoms))
        (subst (λ xs. Learns (map (same_of (rows_at mid facts)) (zip xs row)) mid last) head_is heads)

-- the head is as wide as the row
pub same_width : (s : Schema) (width : ℕ) (part : Part) (head : List Operand) → IsPartFor s width part → head ≡ part.head → length head ≡ width
same_width s width part head fits same = ap length same ∙ fits.wide
