-- The least rounds of mappings, of which an atom is one of the atoms.
use Rattle.std.proofs.Common.{◌≡◌, ℕ, ◌+◌, ◌<◌, ◌≤◌, ◌⊎◌, inl, inr, List, [], ◌∷◌, ◌++◌, length, get_or, take, sym, subst, arith}
use Rattle.std.proofs.lemmas.Bool.{cases_lt}
use Rattle.std.proofs.lemmas.List.{take_all}
use Rattle.std.proofs.lemmas.List.Quantifiers.{Any-push}
use Rattle.std.specs.List.{Any}
use Rattle.std.specs.Prelude.{Option, Some, None}
use Rattle.ba_model.specs.declared.policy.View.{View}
use Rattle.ba_model.specs.declared.query.Part.{Part}
use Rattle.ba_model.specs.declared.schema.Rule.{Rule}
use Rattle.ba_facts.specs.declared.branch.Branch.{Branch}
use Rattle.ba_facts.specs.declared.term.Side.TheVariants.{One, Two}
use Rattle.ba_facts.specs.declared.term.TermAtom.{TermAtom}
use Rattle.ba_facts.specs.Matches.{LeastRound}
use Rattle.ba_kernel.proofs.NewLemmas.{some_cases, some_more}
use Rattle.ba_kernel.proofs.ZipLemmas.{taken}
use Rattle.ba_kernel.specs.NewParts.{IsAtomOfParts, IsAtomOfRules, IsAtomOfViews, IsToldSplit, MayTell, least_of}
use Rattle.ba_kernel.specs.Steps.{IsCandidate}
use Rattle.ba_kernel.specs.declared.problem.Problem.{Problem}

module _ (b : Branch) where
  -- of what is so of the same facts
  pub least_as : (P Q : List ℕ → Type 0) (n : Option ℕ) → ((facts : List ℕ) → P facts → Q facts) → ((facts : List ℕ) → Q facts → P facts) →
      LeastRound b P n → LeastRound b Q n
  least_as P Q None to from h = λ facts q. h facts (from facts q)
  least_as P Q (Some n) to from h =
      record { facts = h.facts; holds = to h.facts h.holds; round_is = h.round_is; least = λ others q. h.least others (from others q) }

  module _ (P Q : List ℕ → Type 0) where
    abbrev Either : List ℕ → Type 0
    Either facts = P facts ⊎ Q facts

    -- of either
    pub least_either : (m n : Option ℕ) → LeastRound b P m → LeastRound b Q n → LeastRound b Either (least_of m n)
    least_either None None h k = λ facts e. elim e [ inl p ↦ h facts p | inr q ↦ k facts q ]
    least_either None (Some n) h k = record {
      facts = k.facts;
      holds = inr k.holds;
      round_is = k.round_is;
      least = λ others e. elim e [ inl p ↦ absurd (h others p) | inr q ↦ k.least others q ];
    }
    least_either (Some m) None h k = record {
      facts = h.facts;
      holds = inl h.holds;
      round_is = h.round_is;
      least = λ others e. elim e [ inl p ↦ h.least others p | inr q ↦ absurd (k others q) ];
    }
    least_either (Some m) (Some n) h k = elim (cases_lt m n) [
      | inl less ↦ record {
        facts = h.facts;
        holds = inl h.holds;
        round_is = omega (arith, h.round_is);
        least = λ others e. elim e [ inl p ↦ omega (arith, h.least others p) | inr q ↦ omega (arith, k.least others q) ];
      }
      | inr more ↦ record {
        facts = k.facts;
        holds = inr k.holds;
        round_is = omega (arith, k.round_is);
        least = λ others e. elim e [ inl p ↦ omega (arith, h.least others p) | inr q ↦ omega (arith, k.least others q) ];
      }
    ]

  -- of some element of a list so far, and of the next one
  module _ {X : Type 0} (R : X → List ℕ → Type 0) where
    abbrev Some_of : List X → List ℕ → Type 0
    Some_of xs facts = Any (λ x. R x facts) xs

    pub least_none : LeastRound b (Some_of []) None
    least_none facts (k, x, below, at, h) = absurd (omega arith)

    -- at the end of the list
    pub least_end : (xs : List X) (i : ℕ) (n : Option ℕ) → length xs ≤ i → LeastRound b (Some_of (take i xs)) n → LeastRound b (Some_of xs) n
    least_end xs i n past h = subst (λ ys. LeastRound b (Some_of ys) n) (take_all i xs past) h

    pub least_more : (xs : List X) (i : ℕ) (x : X) (so_far here new : Option ℕ) → i < length xs → x ≡ get_or xs i x →
        LeastRound b (Some_of (take i xs)) so_far → LeastRound b (R x) here → new ≡ least_of so_far here → LeastRound b (Some_of (take (i + 1) xs)) new
    least_more xs i x so_far here new below at before h new_is =
        let both : LeastRound b (λ facts. Some_of (take i xs) facts ⊎ R x facts) (least_of so_far here) =
        least_either (Some_of (take i xs)) (R x) so_far here before h in
        let more : LeastRound b (Some_of (take i xs ++ x ∷ [])) (least_of so_far here) =
        least_as (λ facts. Some_of (take i xs) facts ⊎ R x facts) (Some_of (take i xs ++ x ∷ [])) (least_of so_far here)
        (λ facts e. elim e [ inl some ↦ some_more (λ y. R y facts) (take i xs) x some | inr this ↦ Any-push (λ y. R y facts) (take i xs) x this ])
        (λ facts some. some_cases (λ y. R y facts) (take i xs) x some) both in
        subst (LeastRound b (Some_of (take (i + 1) xs))) (sym new_is)
        (subst (λ ys. LeastRound b (Some_of ys) (least_of so_far here)) (sym (taken xs i x below at)) more)

-- ---- candidates
module _ (p : Problem) (b : Branch) (atom : TermAtom) where
  abbrev OfQueries : List View → List Part → List ℕ → Type 0
  OfQueries views parts facts = IsAtomOfViews b views atom facts ⊎ IsAtomOfParts b Two parts (Some b.goal) atom facts

  abbrev Sought : List View → List Part → List Rule → List ℕ → Type 0
  Sought views parts rules facts = OfQueries views parts facts ⊎ IsAtomOfRules b rules atom facts

  candidate : (facts : List ℕ) → Sought p.policy.views p.goal.parts p.policy.schema.rules facts → IsCandidate p b atom facts
  candidate facts (inl (inl (k, view, below, at, (j, part, under, is, h)))) = IsCandidate.of_view (k, below, at) (j, under, is) h
  candidate facts (inl (inr (j, part, under, is, h))) = IsCandidate.of_goal (j, under, is) h
  candidate facts (inr (k, rule, below, at, inl (j, part, under, is, h))) = IsCandidate.of_rule One (k, below, at) (j, under, is) h
  candidate facts (inr (k, rule, below, at, inr (j, part, under, is, h))) = IsCandidate.of_rule Two (k, below, at) (j, under, is) h

  sought : (facts : List ℕ) → IsCandidate p b atom facts → Sought p.policy.views p.goal.parts p.policy.schema.rules facts
  sought facts (IsCandidate.of_view {view} {part} v of h) = inl (inl (v.0, view, v.1, v.2, (of.0, part, of.1, of.2, h)))
  sought facts (IsCandidate.of_goal {part} of h) = inl (inr (of.0, part, of.1, of.2, h))
  sought facts (IsCandidate.of_rule {rule} {part} One r of h) = inr (r.0, rule, r.1, r.2, inl (of.0, part, of.1, of.2, h))
  sought facts (IsCandidate.of_rule {rule} {part} Two r of h) = inr (r.0, rule, r.1, r.2, inr (of.0, part, of.1, of.2, h))

  module _ (views goal both rules new : Option ℕ) where
    sought_round : (vs : List View) (ps : List Part) (rs : List Rule) → LeastRound b (IsAtomOfViews b vs atom) views →
        LeastRound b (IsAtomOfParts b Two ps (Some b.goal) atom) goal → LeastRound b (IsAtomOfRules b rs atom) rules →
        both ≡ least_of views goal → new ≡ least_of both rules → LeastRound b (Sought vs ps rs) new
    sought_round vs ps rs of_views of_goal of_rules both_is new_is =
        let first : LeastRound b (OfQueries vs ps) (least_of views goal) =
        least_either b (IsAtomOfViews b vs atom) (IsAtomOfParts b Two ps (Some b.goal) atom) views goal of_views of_goal in
        subst (LeastRound b (Sought vs ps rs)) (sym new_is)
        (least_either b (OfQueries vs ps) (IsAtomOfRules b rs atom) both rules (subst (LeastRound b (OfQueries vs ps)) (sym both_is) first) of_rules)

    pub candidate_round : (vs : List View) (ps : List Part) (rs : List Rule) → vs ≡ p.policy.views → ps ≡ p.goal.parts → rs ≡ p.policy.schema.rules →
        LeastRound b (IsAtomOfViews b vs atom) views → LeastRound b (IsAtomOfParts b Two ps (Some b.goal) atom) goal →
        LeastRound b (IsAtomOfRules b rs atom) rules → both ≡ least_of views goal → new ≡ least_of both rules → LeastRound b (IsCandidate p b atom) new
    candidate_round vs ps rs vs_is ps_is rs_is of_views of_goal of_rules both_is new_is =
        let found : LeastRound b (Sought vs ps rs) new = sought_round vs ps rs of_views of_goal of_rules both_is new_is in
        let one : LeastRound b (Sought p.policy.views ps rs) new = subst (λ them. LeastRound b (Sought them ps rs) new) vs_is found in
        let two : LeastRound b (Sought p.policy.views p.goal.parts rs) new = subst (λ them. LeastRound b (Sought p.policy.views them rs) new) ps_is one in
        let all : LeastRound b (Sought p.policy.views p.goal.parts p.policy.schema.rules) new =
        subst (λ them. LeastRound b (Sought p.policy.views p.goal.parts them) new) rs_is two in
        least_as b (Sought p.policy.views p.goal.parts p.policy.schema.rules) (IsCandidate p b atom) new candidate sought all

  -- a split that may tell, and its round
  pub split_told : (round wide : ℕ) → wide ≡ round → MayTell b.known atom → LeastRound b (IsCandidate p b atom) (Some round) →
      IsToldSplit p b atom (Some (wide + 1))
  split_told round wide is may h = (
    record { not_shown = may.not_shown; not_refuted = may.not_refuted; kind = may.kind; facts = h.facts; candidate = h.holds },
    record {
      facts = h.facts;
      candidate = h.holds;
      round_is = omega (arith, h.round_is);
      least = λ others other. omega (arith, h.round_is, h.least others other);
    },
  )
