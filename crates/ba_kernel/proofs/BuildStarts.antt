-- What the branches of a problem's start need.
use Rattle.std.proofs.Common.{◌≡◌, ℕ, ◌+◌, ◌<◌, List, [], ◌∷◌, ◌++◌, get_or, length, map, refl, take, ap, ap₂, sym, ◌∙◌, subst, append_assoc}
use Rattle.std.proofs.lemmas.List.{map-append}
use Rattle.std.proofs.lemmas.List.Elements.{All-nil}
use Rattle.std.specs.List.{All, range_with_len}
use Rattle.std.specs.Prelude.{Option, Some}
use Rattle.ba_model.specs.Fit.{PartFits, kinds_of}
use Rattle.ba_model.specs.declared.query.Atom.{Atom}
use Rattle.ba_model.specs.declared.query.Operand.{Operand}
use Rattle.ba_model.specs.declared.query.Part.{Part}
use Rattle.ba_kernel.proofs.BuildLemmas.{zip_more}
use Rattle.ba_kernel.proofs.TidyLemmas.{atoms_have_terms}
use Rattle.ba_kernel.specs.Courses.{IsStartOf, ProblemFits, nothing_known}
use Rattle.ba_kernel.specs.Effects.{lesson_of, rows_at, with_facts, with_lessons}
use Rattle.ba_facts.specs.Matches.{row_of, term_of}
use Rattle.ba_kernel.specs.Tidy.{AreStarts, FactsAreThere, HasTerms, IsPartFor, IsPartOf, Learns, TermsAreThere}
use Rattle.ba_facts.specs.declared.branch.Branch.{Branch}
use Rattle.ba_kernel.specs.declared.problem.Problem.{Problem}
use Rattle.ba_facts.specs.declared.term.Fact.{Fact}
use Rattle.ba_facts.specs.declared.term.Side.TheVariants.{One}
use Rattle.ba_facts.specs.declared.term.Term.{Term}

pub part_of_goal : (p : Problem) (parts : List Part) (fits : ProblemFits p) (i : ℕ) (part : Part) → parts ≡ p.goal.parts → i < length parts → part ≡ get_or parts i part →
    IsPartOf p part
part_of_goal p parts fits i part same below at =
    let kinds = fits.goal.fits.kinds in
    let all : All (PartFits p.policy.schema (kinds_of p.policy.params) p.vars kinds) parts =
    subst (All (PartFits p.policy.schema (kinds_of p.policy.params) p.vars kinds)) (sym same) fits.goal.fits.parts in
    record { kinds = kinds; fits = subst (PartFits p.policy.schema (kinds_of p.policy.params) p.vars kinds) (sym at) (all i part below) }

pub part_for : (p : Problem) (part : Part) → IsPartOf p part → IsPartFor p.policy.schema (length part.head) part
part_for p part h = record { params = kinds_of p.policy.params; vars = p.vars; kinds = h.kinds; fits = h.fits; wide = refl }

pub nothing_there : (p : Problem) → FactsAreThere (nothing_known p)
nothing_there p = record { facts = All-nil (λ (fact : Fact). TermsAreThere (nothing_known p).known fact.terms) }

pub assumed_terms : (p : Problem) (assumed : List Atom) → ProblemFits p → assumed ≡ p.assumed → All (HasTerms []) assumed
assumed_terms p assumed fits same =
    subst (All (HasTerms [])) (sym same) (atoms_have_terms p.policy.schema (kinds_of p.policy.params) p.vars [] [] tt p.assumed fits.assumed)

pub start_is : (p : Problem) (part : Part) (new mid last : Branch) (facts : List ℕ) (conds assumed : List Atom) (head : List Operand) (items goal : List Term) →
    new ≡ with_facts p.policy.schema One 0 (nothing_known p) part.from → facts ≡ range_with_len 0 (length part.from) → conds ≡ part.conds → assumed ≡ p.assumed →
    head ≡ part.head → row_of new facts head ≡ map Some items → goal ≡ items → Learns (map (lesson_of (rows_at new facts)) conds) new mid →
    Learns (map (lesson_of []) assumed) mid last → IsStartOf p part (record last { goal = goal })
start_is p part new mid last facts conds assumed head items goal new_is facts_are conds_are assumed_is head_is gives goal_is atoms more =
    let with_rows = with_facts p.policy.schema One 0 (nothing_known p) part.from in
    let rows_are : rows_at new facts ≡ rows_at with_rows (range_with_len 0 (length part.from)) = ap₂ rows_at new_is facts_are in
    record {
      atoms = atoms.lessons;
      assumed = more.lessons;
      goal = goal;
      atoms_are = sym (ap₂ (λ rows xs. map (lesson_of rows) xs) rows_are conds_are) ∙ atoms.are;
      assumed_are = sym (ap (map (lesson_of [])) assumed_is) ∙ more.are;
      goal_is = sym (ap₂ (λ rows xs. map (term_of rows) xs) rows_are head_is) ∙ (gives ∙ ap (map Some) (sym goal_is));
      new_is =
          ap (λ (b : Branch). record b { goal = goal })
          (more.new_is ∙ (ap (λ b. with_lessons b more.lessons) (atoms.new_is ∙ ap (λ b. with_lessons b atoms.lessons) new_is) ∙
          ap (λ ls. record with_rows { known = record with_rows.known { learned = ls } }) (append_assoc with_rows.known.learned atoms.lessons more.lessons)));
    }

pub starts_more : (p : Problem) (parts : List Part) (i : ℕ) (part : Part) (slots new : List (Option Branch)) (b : Branch) → i < length parts → part ≡ get_or parts i part →
    AreStarts p (take i parts) slots → IsStartOf p part b → new ≡ slots ++ Some b ∷ [] → AreStarts p (take (i + 1) parts) new
starts_more p parts i part slots new b below at h is pushed =
    record {
      branches = h.branches ++ b ∷ [];
      starts = zip_more (IsStartOf p) parts i part h.branches (h.branches ++ b ∷ []) b below at h.starts is refl;
      slots_are = pushed ∙ (ap (λ ss. ss ++ Some b ∷ []) h.slots_are ∙ sym (map-append Some h.branches (b ∷ [])));
    }
