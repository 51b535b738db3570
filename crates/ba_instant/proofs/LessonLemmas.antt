-- With further lessons a branch has the facts that it had, and what was met is met.
use Rattle.std.proofs.Common.{◌≡◌, ℕ, List, [], ◌∷◌, ◌++◌, map, refl, sym, arith}
use Rattle.std.proofs.lemmas.List.{append-nil}
use Rattle.std.proofs.lemmas.List.Elements.{All-weaker}
use Rattle.std.specs.List.{AllZip, Any, zip}
use Rattle.std.specs.Prelude.{Option}
use Rattle.ba_model.specs.declared.query.Atom.{Atom}
use Rattle.ba_model.specs.declared.query.Part.{Part}
use Rattle.ba_facts.specs.Known.{Known}
use Rattle.ba_facts.specs.Laws.{kind_of_term}
use Rattle.ba_facts.specs.Matches.{AreTheSame, IsAnswered, IsFactOf, IsMapping, IsShown, round_of, row_of, terms_at}
use Rattle.ba_facts.specs.Shown.{TheSame}
use Rattle.ba_facts.specs.declared.branch.Branch.{Branch}
use Rattle.ba_facts.specs.declared.term.Lesson.{Lesson}
use Rattle.ba_facts.specs.declared.term.Side.{Side}
use Rattle.ba_facts.specs.declared.term.Side.TheVariants.{One, Two}
use Rattle.ba_facts.specs.declared.term.Term.{Term}
use Rattle.ba_facts.specs.declared.term.Term.TheVariants.{Unknown, Val, Param, Var}
use Rattle.ba_kernel.specs.Effects.{with_lessons}
use Rattle.ba_kernel.specs.Steps.{AreEqualIn, EntryIsMet, KeyIsMet, LinkIsMet, RuleIsMet, ViewIsMet}
use Rattle.ba_kernel.specs.declared.problem.Problem.{Problem}
use Rattle.ba_instant.proofs.CarryLemmas.{Carries, equal, shows, the_same}
use Rattle.ba_instant.proofs.GrowthLemmas.{carries_on}
use Rattle.ba_instant.proofs.OldMappingLemmas.{any_weaker}
use Rattle.ba_instant.proofs.OldTermLemmas.{under}

module _ (p : Problem) (b : Branch) (lessons : List Lesson) where
  abbrev c : Branch
  c = with_lessons b lessons

  abbrev k : Known
  k = b.known

  abbrev l : Known
  l = record b.known { learned = b.known.learned ++ lessons }

  pub carries_further : Carries k l (λ t. t)
  carries_further = carries_on k l [] lessons (sym (append-nil k.unknowns)) refl

  -- ---- facts, which are as they were

  fact_on : (side : Side) (table n : ℕ) → IsFactOf b side table n → IsFactOf c side table n
  fact_on side table n h = record { fact = h.fact; there = h.there; side_is = h.side_is; table_is = h.table_is }

  pub mapping_on : (side : Side) (from facts : List ℕ) → IsMapping b side from facts → IsMapping c side from facts
  mapping_on side [] [] h = tt
  mapping_on side [] (n ∷ facts) h = absurd h
  mapping_on side (table ∷ from) [] h = absurd h
  mapping_on side (table ∷ from) (n ∷ facts) h = (fact_on side table n h.0, mapping_on side from facts h.1)

  pub mapping_back : (side : Side) (from facts : List ℕ) → IsMapping c side from facts → IsMapping b side from facts
  mapping_back side [] [] h = tt
  mapping_back side [] (n ∷ facts) h = absurd h
  mapping_back side (table ∷ from) [] h = absurd h
  mapping_back side (table ∷ from) (n ∷ facts) h =
      (record { fact = (h.0).fact; there = (h.0).there; side_is = (h.0).side_is; table_is = (h.0).table_is }, mapping_back side from facts h.1)

  pub same_round : (facts : List ℕ) → round_of c facts ≡ round_of b facts
  same_round [] = refl
  same_round (n ∷ facts) = let rest = same_round facts in omega (arith, rest)

  pub same_kind : (t : Term) → kind_of_term c t ≡ kind_of_term b t
  same_kind (Unknown n) = refl
  same_kind (Val v) = refl
  same_kind (Param n) = refl
  same_kind (Var n) = refl

  -- ---- what was met is met

  two_on : (x y : Option Term) → AreTheSame k x y → AreTheSame l x y
  two_on x y h = record { left = h.left; right = h.right; left_is = h.left_is; right_is = h.right_is; same = the_same k l (λ t. t) carries_further h.same }

  pub row_on : (xs ys : List (Option Term)) → AllZip (AreTheSame k) xs ys → AllZip (AreTheSame l) xs ys
  row_on [] [] h = tt
  row_on [] (y ∷ ys) h = absurd h
  row_on (x ∷ xs) [] h = absurd h
  row_on (x ∷ xs) (y ∷ ys) h = (two_on x y h.0, row_on xs ys h.1)

  shown_on : (rows : List (List Term)) (atom : Atom) → IsShown k rows atom → IsShown l rows atom
  shown_on rows atom h = under rows atom (λ x y left right. shows k l (λ t. t) carries_further atom.op x y) h

  answered_on : (side : Side) (part : Part) (row : List (Option Term)) → IsAnswered b side part row → IsAnswered c side part row
  answered_on side part row h =
      let rows = map (terms_at b) h.facts in
      record {
        facts = h.facts;
        facts_of = mapping_on side part.from h.facts h.facts_of;
        shown = All-weaker (IsShown k rows) (IsShown l rows) (shown_on rows) part.conds h.shown;
        head = row_on (row_of b h.facts part.head) row h.head;
      }

  given_on : (side : Side) (row : List (Option Term)) (parts : List Part) → Any (λ part. IsAnswered b side part row) parts → Any (λ part. IsAnswered c side part row) parts
  given_on side row parts h = any_weaker (λ part. IsAnswered b side part row) (λ part. IsAnswered c side part row) (λ part. answered_on side part row) parts h

  pub entry_met : (entry : ℕ) → EntryIsMet p b entry → EntryIsMet p c entry
  entry_met entry h = record { it = h.it; there = h.there; given = given_on One (row_of b [] h.it.row) h.it.query.parts h.given }

  all_same : (ts us : List Term) → AllZip (TheSame k) ts us → AllZip (TheSame l) ts us
  all_same [] [] h = tt
  all_same [] (u ∷ us) h = absurd h
  all_same (t ∷ ts) [] h = absurd h
  all_same (t ∷ ts) (u ∷ us) h = (the_same k l (λ t. t) carries_further h.0, all_same ts us h.1)

  pub key_met : (one other : ℕ) → KeyIsMet b one other → KeyIsMet c one other
  key_met one other h = record { f = h.f; g = h.g; left_is = h.left_is; right_is = h.right_is; same = all_same h.f.terms h.g.terms h.same }

  pub link_met : (link fact : ℕ) → LinkIsMet p.policy.schema b link fact → LinkIsMet p.policy.schema c link fact
  link_met link fact h =
      let us = terms_at b h.number in
      record {
        f = h.f;
        fact_is = h.fact_is;
        it = h.it;
        link_of = h.link_of;
        number = h.number;
        target = fact_on h.f.side h.it.target h.number h.target;
        equal = All-weaker (AreEqualIn b h.f.terms us) (AreEqualIn c h.f.terms us)
            (λ columns at. record { a = at.a; c = at.c; left_is = at.left_is; right_is = at.right_is; equal = equal k l (λ t. t) carries_further at.equal })
            (zip h.it.columns h.it.target_columns) h.equal;
      }

  pub view_met : (view part : ℕ) (facts : List ℕ) → ViewIsMet p b view part facts → ViewIsMet p c view part facts
  view_met view part facts h =
      record { it = h.it; view_is = h.view_is; of = h.of; part_is = h.part_is; given = given_on Two (row_of b facts h.of.head) h.it.query.parts h.given }

  pub rule_met : (rule part : ℕ) (facts : List ℕ) → RuleIsMet p b rule part facts → RuleIsMet p c rule part facts
  rule_met rule part facts h =
      record {
        it = h.it;
        rule_is = h.rule_is;
        left = h.left;
        part_is = h.part_is;
        side = h.side;
        mapping = mapping_on h.side h.left.from facts h.mapping;
        given = given_on h.side (row_of b facts h.left.head) h.it.right.parts h.given;
      }
