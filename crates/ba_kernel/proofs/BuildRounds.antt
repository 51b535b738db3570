-- The rounds of facts, and of entries.
use Rattle.std.proofs.Common.{◌≡◌, ℕ, ◌+◌, ◌<◌, List, [], ◌∷◌, ◌++◌, get_or, inl, inr, length, max, refl, ap, ap₂, sym, ◌∙◌, subst, take, arith}
use Rattle.std.proofs.lemmas.List.{take_more}
use Rattle.std.specs.List.{Any}
use Rattle.std.specs.Option.{option_map}
use Rattle.std.specs.Prelude.{slice_get, unwrap_or}
use Rattle.ba_model.specs.declared.query.Operand.{Operand}
use Rattle.ba_model.specs.declared.query.Operand.TheVariants.{Col, Val, Param, Var}
use Rattle.ba_facts.specs.Matches.{round_of}
use Rattle.ba_kernel.specs.Effects.{SharesLiteral}
use Rattle.ba_kernel.specs.Tidy.{IsLiteralOfSome}
use Rattle.ba_facts.specs.declared.branch.Branch.{Branch}
use Rattle.ba_kernel.specs.declared.problem.Problem.{Problem}
use Rattle.ba_facts.specs.declared.term.Fact.{Fact}

abbrev pub round_at : Branch → ℕ → ℕ
round_at b n = unwrap_or (option_map (λ (fact : Fact). fact.round) (slice_get b.facts n)) 0

round_push : (b : Branch) (facts : List ℕ) (n : ℕ) → round_of b (facts ++ n ∷ []) ≡ max (round_of b facts) (round_at b n)
round_push b [] n = omega arith
round_push b (m ∷ facts) n = let rest = round_push b facts n in omega arith

pub round_more : (b : Branch) (facts : List ℕ) (i before after here : ℕ) → i < length facts → before ≡ round_of b (take i facts) → here ≡ round_at b (get_or facts i 0) →
    after ≡ max before here → after ≡ round_of b (take (i + 1) facts)
round_more b facts i before after here below so_far is e =
    e ∙ (ap₂ max so_far is ∙ (sym (round_push b (take i facts) (get_or facts i 0)) ∙ ap (round_of b) (sym (take_more facts i 0 below))))

-- ---- literals that the row and the goal share

module _ (p : Problem) (row : List Operand) where
  shared_at : (k : ℕ) (x : Operand) → k < length row → get_or row k x ≡ x → IsLiteralOfSome p.goal x → SharesLiteral p row
  shared_at k (Col place column) below at h = absurd h
  shared_at k (Param n) below at h = absurd h
  shared_at k (Var n) below at h = absurd h
  shared_at k (Val v) below at (m, part, inside, part_at, has) =
      record {
        value = v;
        in_row = (k, below, at);
        in_goal = record {
          part = part;
          of = (m, inside, part_at);
          stands = elim has.stands [
            | inl conds ↦ inl conds
            | inr (j, y, under, y_at, y_is) ↦ inr (j, under, subst (λ z. get_or part.head j z ≡ z) y_is y_at)
          ];
        };
      }

  pub shares : Any (IsLiteralOfSome p.goal) row → SharesLiteral p row
  shares (k, x, below, at, h) = shared_at k x below at h

  pub shares_not : (Any (IsLiteralOfSome p.goal) row → ⊥) → SharesLiteral p row → ⊥
  shares_not none h =
      let (k, below, at) = h.in_row in
      let (m, inside, part_at) = (h.in_goal).of in
      none (
        k,
        Val h.value,
        below,
        at,
        (
          m,
          (h.in_goal).part,
          inside,
          part_at,
          record {
            stands = elim (h.in_goal).stands [
              | inl conds ↦ inl conds
              | inr (j, under, is) ↦ inr (j, Val h.value, under, is, refl)
            ];
          },
        ),
      )
