-- Keys of two facts, of which one is recent.
use Rattle.std.proofs.Common.{◌≡◌, ◌∙◌, ℕ, ◌+◌, ◌<◌, ◌≤◌, ◌⊎◌, inl, inr, List, [], ◌∷◌, refl, sym, ap, subst, arith}
use Rattle.std.proofs.lemmas.Bool.{cases_lt}
use Rattle.std.proofs.lemmas.Option.{get_or_from_slice_get, slice_get-get_or, slice_get_within}
use Rattle.std.specs.List.{All, Any, Contains}
use Rattle.std.specs.Prelude.{Option, Some, None, max, slice_get}
use Rattle.ba_model.specs.declared.schema.Schema.{Schema}
use Rattle.ba_facts.specs.Known.{Known, OneClass}
use Rattle.ba_facts.specs.Matches.{round_of}
use Rattle.ba_facts.specs.Shown.{TheSame}
use Rattle.ba_facts.specs.declared.branch.Branch.{Branch}
use Rattle.ba_facts.specs.declared.term.Fact.{Fact}
use Rattle.ba_facts.specs.declared.term.Term.{Term}
use Rattle.ba_kernel.specs.Courses.{IsOpen, branch_of}
use Rattle.ba_kernel.specs.Steps.{AreEqualAt, IsRound, KeyPasses}
use Rattle.ba_kernel.specs.SearchStates.{Course}
use Rattle.ba_kernel.specs.declared.step.Step.{Step}
use Rattle.ba_kernel.specs.declared.step.Step.TheVariants as steps
use Rattle.ba_instant.proofs.ChaseLemmas.{new_on}
use Rattle.ba_instant.proofs.DueLemmas.{round_on}
use Rattle.ba_instant.proofs.LateLemmas.{improves_behind, untimely_reaches, untimely_some}
use Rattle.ba_instant.proofs.ScanLemmas.{recent_or}
use Rattle.ba_instant.proofs.OfferLemmas.{improves_as}
use Rattle.ba_instant.specs.Scans.{AreEqualBy, AreRecent, IsKeyInTurn, IsKeyOfTwo, IsTimelyKey, IsTurn, KeysAreLate, ShareKey}
use Rattle.ba_instant.specs.Offers.{Improves, IsNewOf, IsKeyStep, IsNewIn, OfAny, fact_round}
use Rattle.ba_instant.specs.Partners.{ArePartners}
use Rattle.ba_instant.specs.declared.batch.Batch.{Batch}
use Rattle.ba_instant.specs.declared.scan.NewStep.{NewStep}
use Rattle.ba_settle.specs.declared.order.Pick.{Pick}

some_inj : {X : Type 0} (o : Option X) (x y : X) → o ≡ Some x → o ≡ Some y → x ≡ y
some_inj o x y left right = cc

-- ---- either way

same_turned : (k : Known) (a b : Term) → TheSame k a b → TheSame k b a
same_turned k a b (inl h) = inl (OneClass.turned h)
same_turned k a b (inr h) = inr (h.1, h.0)

equal_turned : (b : Branch) (left right : List Term) (column : ℕ) → AreEqualAt b left right column → AreEqualAt b right left column
equal_turned b left right column h = record {
  a = h.c;
  c = h.a;
  left_is = h.right_is;
  right_is = h.left_is;
  equal = record { not_null = record { left = h.equal.not_null.right; right = h.equal.not_null.left }; same = same_turned b.known h.a h.c h.equal.same };
}

pub key_turned : (s : Schema) (b : Branch) (key left right : ℕ) → KeyPasses s b key left right → KeyPasses s b key right left
key_turned s b key left right h = record {
  f = h.g;
  g = h.f;
  pair = record { left_is = h.pair.right_is; right_is = h.pair.left_is; side = sym h.pair.side; table = sym h.pair.table };
  columns = h.columns;
  key_of = record { table = h.key_of.table; table_is = ap (slice_get s.tables) h.pair.table ∙ h.key_of.table_is; key_is = h.key_of.key_is };
  equal = λ k d below. equal_turned b h.f.terms h.g.terms _ (h.equal k d below);
}

module _ (c : Course) (n bound : ℕ) (b : Branch) (recent : List ℕ) (open_ : IsOpen c.slots n b) (late : KeysAreLate c.problem b n bound) (are : AreRecent b bound recent) where
  key_passes : (key left right : ℕ) (step : Step) → step ≡ steps.Key n key left right → IsNewIn c step → KeyPasses c.problem.policy.schema b key left right
  key_passes key left right step is new = (new_on c n b (steps.Key n key left right) open_ refl (subst (IsNewIn c) is new)).passes

  -- ---- all keys

  module _ (left right key : ℕ) (step : Step) (is : step ≡ steps.Key n key left right) (new : IsNewIn c step) where
    -- the fact that it is looked at from
    abbrev pub From : Type 0
    From = (one : ℕ) × Contains recent one × (other : ℕ) × IsKeyInTurn b bound n one other step

    both_recent : Contains recent left → Contains recent right → From
    both_recent l r = elim (cases_lt right left) [
      | inl less ↦ (right, r, left, (inl (omega (arith, less)), inr (key, is)))
      | inr more ↦ (left, l, right, (inl more, inl (key, is)))
    ]

    one_recent : Contains recent left ⊎ (fact_round b left < bound) → Contains recent right ⊎ (fact_round b right < bound) → From
    one_recent (inl l) (inl r) = both_recent l r
    one_recent (inl l) (inr old) = (left, l, right, (inr old, inl (key, is)))
    one_recent (inr old) (inl r) = (right, r, left, (inr old, inr (key, is)))
    one_recent (inr old) (inr older) =
        let past : bound < 1 + round_of b (left ∷ right ∷ []) =
        late (steps.Key n key left right) (1 + round_of b (left ∷ right ∷ [])) (left, (right, (key, refl))) (new_on c n b (steps.Key n key left right) open_ refl (subst (IsNewIn c) is new)) refl in
        absurd (let no : ⊥ = omega (arith, past, old, older) in no)

    looked_from : From
    looked_from =
        let h = key_passes key left right step is new in
        one_recent (recent_or b bound recent are left h.f h.pair.left_is) (recent_or b bound recent are right h.g h.pair.right_is)

  in_turn_is : (one other : ℕ) (step : Step) → IsKeyOfTwo n one other step → IsKeyStep n step
  in_turn_is one other step (inl h) = (one, (other, h))
  in_turn_is one other step (inr h) = (other, (one, h))

  abbrev Looked : Step → Type 0
  Looked step = Any (λ one. OfAny (IsKeyInTurn b bound n one) step) recent

  is_looked : (step : Step) → IsKeyStep n step → IsNewIn c step → Looked step
  is_looked step (left, (right, (key, is))) new =
      let from = looked_from left right key step is new in
      ((from.1).0, from.0, (from.1).1, (from.1).2, (from.2, from.3))

  pub keys_all : (pick : Pick) (old new : Option Batch) → Improves c pick Looked old new → Improves c pick (IsKeyStep n) old new
  keys_all pick old new h =
      improves_as c pick Looked (IsKeyStep n) old new (λ step e is. in_turn_is e.1 (e.4).0 step ((e.4).1).1) (λ step e is. is_looked step e is) h

-- ---- the keys of one fact

module _ (c : Course) (n quiet : ℕ) (b : Branch) (open_ : IsOpen c.slots n b) (pick : Pick) (one : ℕ) where
  abbrev pub InTurn : ℕ → Step → Type 0
  InTurn = IsKeyInTurn b quiet n one

  passes : (key left right : ℕ) (step : Step) → step ≡ steps.Key n key left right → IsNewIn c step → KeyPasses c.problem.policy.schema b key left right
  passes key left right step is new = (new_on c n b (steps.Key n key left right) open_ refl (subst (IsNewIn c) is new)).passes

  shares : (other : ℕ) (step : Step) → IsKeyOfTwo n one other step → IsNewIn c step → ShareKey c.problem.policy.schema b one other
  shares other step (inl h) new = (h.0, passes h.0 one other step h.1 new)
  shares other step (inr h) new = (h.0, key_turned c.problem.policy.schema b h.0 other one (passes h.0 other one step h.1 new))

  abbrev Late : ℕ → NewStep → Type 0
  Late other it = 1 + max (fact_round b one) (fact_round b other) ≤ it.round

  late_key : (other key left right : ℕ) (it : NewStep) (P : Step → Type 0) → it.step ≡ steps.Key n key left right → IsNewOf c P it →
      round_of b (left ∷ right ∷ []) ≡ max (fact_round b one) (fact_round b other) → Late other it
  late_key other key left right it P is h same =
      let on : branch_of it.step ≡ n = ap branch_of is in
      let at : IsRound c.problem b (steps.Key n key left right) it.round =
      subst (λ s. IsRound c.problem b s it.round) is (round_on c n b open_ it.step it.round on h.round_is) in
      omega (arith, at, same)

  late_two : (other : ℕ) (it : NewStep) (P : Step → Type 0) → IsKeyOfTwo n one other it.step → IsNewOf c P it → Late other it
  late_two other it P (inl (key, is)) h = late_key other key one other it P is h (omega arith)
  late_two other it P (inr (key, is)) h = late_key other key other one it P is h (omega arith)

  -- it isn't the other's turn, or no key of the two may be new and come first
  pub pair_passed : (other : ℕ) (best : Option Batch) → (IsTurn b quiet one other × IsTimelyKey b one other best × ShareKey c.problem.policy.schema b one other → ⊥) →
      Improves c pick (InTurn other) best best
  pair_passed other best none =
      improves_behind c pick (InTurn other) best
      (λ it h.
      untimely_reaches pick (max (fact_round b one) (fact_round b other)) best it (λ timely. none ((h.of).0, timely, shares other it.step (h.of).1 h.new_))
      (late_two other it (InTurn other) (h.of).1 h))
      (λ step e new. untimely_some (max (fact_round b one) (fact_round b other)) best (λ timely. none (e.0, timely, shares other step e.1 new)))

  -- each that shares a key with the fact is one of its partners
  pub partners_all : (partners : List ℕ) (old new : Option Batch) → ArePartners c.problem.policy.schema b one partners →
      Improves c pick (λ step. Any (λ other. InTurn other step) partners) old new → Improves c pick (OfAny InTurn) old new
  partners_all partners old new are h =
      improves_as c pick (λ step. Any (λ other. InTurn other step) partners) (OfAny InTurn) old new (λ step e is. (e.1, e.4))
      (λ step e is. let at = are e.0 (shares e.0 step (e.1).1 is) in (at.0, e.0, at.1, at.2, e.1)) h

-- ---- the test

abbrev EqualOn : Branch → Fact → Fact → List ℕ → Type 0
EqualOn b f g columns = All (AreEqualAt b f.terms g.terms) columns

module _ (s : Schema) (b : Branch) (one other : ℕ) (f g : Fact) (f_is : slice_get b.facts one ≡ Some f) (g_is : slice_get b.facts other ≡ Some g) where
  pub share_by : g.side ≡ f.side → g.table ≡ f.table → AreEqualBy s b f g → ShareKey s b one other
  share_by side table h =
      let any = h.key in (
        any.0,
        record {
          f = f;
          g = g;
          pair = record { left_is = f_is; right_is = g_is; side = side; table = table };
          columns = any.1;
          key_of = record { table = h.table; table_is = h.table_is; key_is = slice_get-get_or h.table.keys any.0 any.1 any.2 ∙ ap Some any.3 };
          equal = any.4;
        },
      )

  pub shared_by : ShareKey s b one other → (g.side ≡ f.side) × (g.table ≡ f.table) × AreEqualBy s b f g
  shared_by (key, h) =
      let f_same : h.f ≡ f = some_inj _ h.f f h.pair.left_is f_is in
      let g_same : h.g ≡ g = some_inj _ h.g g h.pair.right_is g_is in
      let side : g.side ≡ f.side = ap (λ (x : Fact). x.side) (sym g_same) ∙ (h.pair.side ∙ ap (λ (x : Fact). x.side) f_same) in
      let table : g.table ≡ f.table = ap (λ (x : Fact). x.table) (sym g_same) ∙ (h.pair.table ∙ ap (λ (x : Fact). x.table) f_same) in (
        side,
        table,
        record {
          table = h.key_of.table;
          table_is = subst (λ (x : Fact). slice_get s.tables x.table ≡ Some h.key_of.table) f_same h.key_of.table_is;
          key = (
            key,
            h.columns,
            slice_get_within h.key_of.table.keys key h.columns h.key_of.key_is,
            get_or_from_slice_get h.key_of.table.keys key h.columns h.columns h.key_of.key_is,
            subst (λ (x : Fact). EqualOn b x g h.columns) f_same (subst (λ (x : Fact). EqualOn b h.f x h.columns) g_same h.equal),
          );
        },
      )

pub none_shares : (s : Schema) (b : Branch) (one other : ℕ) → slice_get b.facts one ≡ None → ShareKey s b one other → ⊥
none_shares s b one other none (key, h) = let wrong : Some h.f ≡ None = sym h.pair.left_is ∙ none in cc

pub none_shared : (s : Schema) (b : Branch) (one other : ℕ) → slice_get b.facts other ≡ None → ShareKey s b one other → ⊥
none_shared s b one other none (key, h) = let wrong : Some h.g ≡ None = sym h.pair.right_is ∙ none in cc
