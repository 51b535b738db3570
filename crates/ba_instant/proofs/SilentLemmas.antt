-- A branch that grows quietly by facts of side One stays silent.
use Rattle.std.proofs.Common.{◌≡◌, ◌∙◌, ℕ, ◌⊎◌, inl, inr, List, [], ◌∷◌, ◌++◌, ◌+◌, length, map, refl, sym, subst}
use Rattle.std.proofs.lemmas.Option.{get_or_from_slice_get, slice_get_within}
use Rattle.std.specs.List.{All, AllZip}
use Rattle.std.specs.Prelude.{Some, slice_get}
use Rattle.ba_model.specs.declared.query.Operand.{Operand}
use Rattle.ba_facts.specs.Knowing.{IsThere}
use Rattle.ba_facts.specs.Matches.{AreTheSame, IsFactOf, IsMapping, row_of, term_of, terms_at}
use Rattle.ba_facts.specs.declared.branch.Branch.{Branch}
use Rattle.ba_facts.specs.declared.term.Fact.{Fact}
use Rattle.ba_facts.specs.declared.term.Side.TheVariants.{One, Two}
use Rattle.ba_facts.specs.declared.term.Term.{Term}
use Rattle.ba_kernel.proofs.TidyLemmas.{term_there}
use Rattle.ba_kernel.specs.News.{IsNewOn}
use Rattle.ba_kernel.specs.Steps.{GoalPasses}
use Rattle.ba_kernel.specs.declared.problem.Problem.{Problem}
use Rattle.ba_kernel.specs.declared.step.Step.TheVariants as steps
use Rattle.ba_instant.proofs.CarryLemmas.{absurd_back}
use Rattle.ba_instant.proofs.GrowthLemmas.{get_cases, known_before}
use Rattle.ba_instant.proofs.OldFactLemmas.{AreKept, are_kept}
use Rattle.ba_instant.proofs.OldMappingLemmas.{row_kept, same_row_back, shown_back}
use Rattle.ba_instant.specs.Agendas.{IsSilent}
use Rattle.ba_instant.specs.Windows.{IsGrounded, IsQuietGrowth}

-- the facts are of side One
abbrev pub AreOfOne : List Fact → Type 0
AreOfOne facts = All (λ (fact : Fact). fact.side ≡ One) facts

module _ (p : Problem) (b c : Branch) (grounded : IsGrounded b) (growth : IsQuietGrowth b c) (more : List Fact) (facts_are : c.facts ≡ b.facts ++ more) (ones : AreOfOne more) where
  there : (facts : List ℕ) (x : Operand) (t : Term) → term_of (map (terms_at b) facts) x ≡ Some t → IsThere b.known t
  there facts x t e = term_there b facts x t (record { facts = grounded.facts }) e

  -- ---- facts of side Two

  not_one : (n : ℕ) (f : Fact) → f.side ≡ Two → (slice_get b.facts n ≡ Some f) ⊎ ((m : ℕ) × (n ≡ length b.facts + m) × (slice_get more m ≡ Some f)) → slice_get b.facts n ≡ Some f
  not_one n f two (inl e) = e
  not_one n f two (inr h) =
      let it = ones h.0 f (slice_get_within more h.0 f h.2) in
      let same = get_or_from_slice_get more h.0 f f h.2 in
      let one : f.side ≡ One = subst (λ (x : Fact). x.side ≡ One) same it in
      let wrong : One ≡ Two = sym one ∙ two in
      absurd (let no : ⊥ = cc in no)

  fact_before : (table n : ℕ) → IsFactOf c Two table n → IsFactOf b Two table n
  fact_before table n h =
      record {
        fact = h.fact;
        there = not_one n h.fact h.side_is (get_cases b.facts more n h.fact (subst (λ fs. slice_get fs n ≡ Some h.fact) facts_are h.there));
        side_is = h.side_is;
        table_is = h.table_is;
      }

  mapping_before : (from facts : List ℕ) → IsMapping c Two from facts → IsMapping b Two from facts
  mapping_before [] [] h = tt
  mapping_before [] (n ∷ facts) h = absurd h
  mapping_before (table ∷ from) [] h = absurd h
  mapping_before (table ∷ from) (n ∷ facts) h = (fact_before table n h.0, mapping_before from facts h.1)

  -- ---- what closes the branch

  goal_before : (part : ℕ) (facts : List ℕ) → GoalPasses p c part facts → GoalPasses p b part facts
  goal_before part facts h =
      let mapping = mapping_before h.it.from facts h.pass.mapping in
      let kept : AreKept b c facts = are_kept b c more facts_are Two h.it.from facts mapping in
      let goal : All (IsThere b.known) b.goal = grounded.goal in
      record {
        it = h.it;
        is_part = h.is_part;
        pass = record { mapping = mapping; shown = shown_back b c grounded growth there facts h.it.conds kept h.pass.shown };
        head = same_row_back b c grounded growth there facts h.it.head b.goal goal
            (subst (λ row. AllZip (AreTheSame c.known) row (map Some b.goal)) (row_kept b c grounded growth facts h.it.head kept)
            (subst (λ goal. AllZip (AreTheSame c.known) (row_of c facts h.it.head) (map Some goal)) growth.goal h.head));
      }

  pub silent_stays : (n : ℕ) → IsSilent p n b → IsSilent p n c
  silent_stays n silent step (inl is) new =
      let at : IsNewOn p c (steps.Absurd n) = subst (IsNewOn p c) is new in
      silent (steps.Absurd n) (inl refl) (record { passes = absurd_back c.known b.known growth.stands (known_before b c grounded growth) at.passes; tells = tt })
  silent_stays n silent step (inr (part, (facts, is))) new =
      let at : IsNewOn p c (steps.Goal n part facts) = subst (IsNewOn p c) is new in
      silent (steps.Goal n part facts) (inr (part, (facts, refl))) (record { passes = goal_before part facts at.passes; tells = tt })
