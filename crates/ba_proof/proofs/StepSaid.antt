-- A step is read exactly where it is said.
use Rattle.std.proofs.Common.{◌≡◌, ◌∙◌, ℕ, ◌≤◌, List, [], ◌∷◌, ◌++◌, true, cond, Result, Ok, refl, ap, subst, codes, nat_le}
use Rattle.std.specs.List.{AllZip}
use Rattle.std.specs.Str.{bytes_eq}
use Rattle.std.proofs.lemmas.Bool.{leb-true, le-leb}
use Rattle.serde_json.specs.Data.{Data, string}
use Rattle.ba_model.specs.Readings.{◌>>=◌}
use Rattle.ba_model.specs.declared.policy.Parameter.{Parameter}
use Rattle.ba_facts.specs.declared.term.TermAtom.{TermAtom}
use Rattle.ba_kernel.specs.declared.step.Step.{Step}
use Rattle.ba_kernel.specs.declared.step.Step.TheVariants as steps
use Rattle.ba_proof.proofs.FitLemmas.{bound, good}
use Rattle.ba_proof.proofs.PutLemmas.{same_text}
use Rattle.ba_proof.proofs.SaidLemmas.{OnlyBad, choose, list_is, list_said, long_is, long_only, long_said, number_is, number_only, number_said, numbers_are, numbers_only, numbers_said, ok_same, only_bad, only_bind, only_cond, only_ok, only_or, text_is}
use Rattle.ba_proof.proofs.TermSaid.{atom_is, atom_only, atom_said}
use Rattle.ba_proof.specs.Says.{SaysAtom, SaysEach, SaysLong, SaysShort, SaysStep}
use Rattle.ba_proof.specs.Shapes.{as_list, as_long, bad, list_at, or_bad, text_at}
use Rattle.ba_proof.specs.Steps.{absurd_of, atom_at, entry_of, goal_of, key_of, link_of, long_at, named_of, number_at, numbers_at, rule_in, rule_of, split_of, step_at, step_of, view_of}
use Rattle.ba_proof.specs.Written.{list_json}
use Rattle.ba_proof.specs.declared.fault.ProofFault.{ProofFault}
use Rattle.ba_proof.specs.declared.fault.ProofField.TheVariants as field
use Rattle.ba_proof.specs.declared.version.TheConstants.{RULE_VERSION}

module _ (params : List Parameter) (vars version : ℕ) where
  abbrev Says : Data → Step → Type 0
  Says = SaysStep params vars version

  -- ---- what a step's numbers say

  key_from : (d : Data) (step : Step) (a b c u : Data) (branch key left right : ℕ) → d ≡ list_json (string (codes "key") ∷ a ∷ b ∷ c ∷ u ∷ []) → number_at a ≡ Ok branch → number_at b ≡ Ok key → number_at c ≡ Ok left → number_at u ≡ Ok right
      → ◌≡◌ {A = Result Step ProofFault} (Ok (steps.Key branch key left right)) (Ok step) → Says d step
  key_from d step a b c u branch key left right is h0 h1 h2 h3 e =
      subst (Says d) (ok_same (steps.Key branch key left right) step e) (record { args = a ∷ b ∷ c ∷ u ∷ []; is = is; numbers = (number_is a branch h0, (number_is b key h1, (number_is c left h2, (number_is u right h3, tt)))) })

  key_is : (d : Data) (args : List Data) (step : Step) → d ≡ list_json (string (codes "key") ∷ args) → key_of args ≡ Ok step → Says d step
  key_is d [] step is e = cc e
  key_is d (a ∷ []) step is e = cc e
  key_is d (a ∷ b ∷ []) step is e = cc e
  key_is d (a ∷ b ∷ c ∷ []) step is e = cc e
  key_is d (a ∷ b ∷ c ∷ u ∷ []) step is e =
      let m0 = bound (number_at a) (λ n0. (number_at b >>= λ n1. (number_at c >>= λ n2. (number_at u >>= λ n3. (Ok (steps.Key n0 n1 n2 n3)))))) step e in
      let m1 = bound (number_at b) (λ n1. (number_at c >>= λ n2. (number_at u >>= λ n3. (Ok (steps.Key m0.0 n1 n2 n3))))) step m0.2 in
      let m2 = bound (number_at c) (λ n2. (number_at u >>= λ n3. (Ok (steps.Key m0.0 m1.0 n2 n3)))) step m1.2 in
      let m3 = bound (number_at u) (λ n3. (Ok (steps.Key m0.0 m1.0 m2.0 n3))) step m2.2 in
      key_from d step a b c u m0.0 m1.0 m2.0 m3.0 is m0.1 m1.1 m2.1 m3.1 m3.2
  key_is d (a ∷ b ∷ c ∷ u ∷ w ∷ more) step is e = cc e

  link_from : (d : Data) (step : Step) (a b c : Data) (branch link fact : ℕ) → d ≡ list_json (string (codes "link") ∷ a ∷ b ∷ c ∷ []) → number_at a ≡ Ok branch → number_at b ≡ Ok link → number_at c ≡ Ok fact
      → ◌≡◌ {A = Result Step ProofFault} (Ok (steps.Link branch link fact)) (Ok step) → Says d step
  link_from d step a b c branch link fact is h0 h1 h2 e =
      subst (Says d) (ok_same (steps.Link branch link fact) step e) (record { args = a ∷ b ∷ c ∷ []; is = is; numbers = (number_is a branch h0, (number_is b link h1, (number_is c fact h2, tt))) })

  link_is : (d : Data) (args : List Data) (step : Step) → d ≡ list_json (string (codes "link") ∷ args) → link_of args ≡ Ok step → Says d step
  link_is d [] step is e = cc e
  link_is d (a ∷ []) step is e = cc e
  link_is d (a ∷ b ∷ []) step is e = cc e
  link_is d (a ∷ b ∷ c ∷ []) step is e =
      let m0 = bound (number_at a) (λ n0. (number_at b >>= λ n1. (number_at c >>= λ n2. (Ok (steps.Link n0 n1 n2))))) step e in
      let m1 = bound (number_at b) (λ n1. (number_at c >>= λ n2. (Ok (steps.Link m0.0 n1 n2)))) step m0.2 in
      let m2 = bound (number_at c) (λ n2. (Ok (steps.Link m0.0 m1.0 n2))) step m1.2 in
      link_from d step a b c m0.0 m1.0 m2.0 is m0.1 m1.1 m2.1 m2.2
  link_is d (a ∷ b ∷ c ∷ u ∷ more) step is e = cc e

  rule_from : (d : Data) (step : Step) (a b c u : Data) (branch rule part : ℕ) (facts : List ℕ) → d ≡ list_json (string (codes "rule") ∷ a ∷ b ∷ c ∷ u ∷ []) → number_at a ≡ Ok branch → number_at b ≡ Ok rule → number_at c ≡ Ok part → numbers_at u ≡ Ok facts
      → ◌≡◌ {A = Result Step ProofFault} (Ok (steps.Rule branch rule part facts)) (Ok step) → nat_le RULE_VERSION version ≡ true → Says d step
  rule_from d step a b c u branch rule part facts is h0 h1 h2 hf e v =
      subst (Says d) (ok_same (steps.Rule branch rule part facts) step e) (leb-true RULE_VERSION version v, record { args = a ∷ b ∷ c ∷ []; last = u; is = is; numbers = (number_is a branch h0, (number_is b rule h1, (number_is c part h2, tt))); facts_are = numbers_are u facts hf })

  rule_is : (d : Data) (args : List Data) (step : Step) → d ≡ list_json (string (codes "rule") ∷ args) → rule_of args ≡ Ok step → nat_le RULE_VERSION version ≡ true → Says d step
  rule_is d [] step is e v = cc e
  rule_is d (a ∷ []) step is e v = cc e
  rule_is d (a ∷ b ∷ []) step is e v = cc e
  rule_is d (a ∷ b ∷ c ∷ []) step is e v = cc e
  rule_is d (a ∷ b ∷ c ∷ u ∷ []) step is e v =
      let m0 = bound (number_at a) (λ n0. (number_at b >>= λ n1. (number_at c >>= λ n2. (numbers_at u >>= λ fs. Ok (steps.Rule n0 n1 n2 fs))))) step e in
      let m1 = bound (number_at b) (λ n1. (number_at c >>= λ n2. (numbers_at u >>= λ fs. Ok (steps.Rule m0.0 n1 n2 fs)))) step m0.2 in
      let m2 = bound (number_at c) (λ n2. (numbers_at u >>= λ fs. Ok (steps.Rule m0.0 m1.0 n2 fs))) step m1.2 in
      let all = bound (numbers_at u) (λ fs. Ok (steps.Rule m0.0 m1.0 m2.0 fs)) step m2.2 in
      rule_from d step a b c u m0.0 m1.0 m2.0 all.0 is m0.1 m1.1 m2.1 all.1 all.2 v
  rule_is d (a ∷ b ∷ c ∷ u ∷ w ∷ more) step is e v = cc e

  view_from : (d : Data) (step : Step) (a b c u : Data) (branch view part : ℕ) (facts : List ℕ) → d ≡ list_json (string (codes "view") ∷ a ∷ b ∷ c ∷ u ∷ []) → number_at a ≡ Ok branch → number_at b ≡ Ok view → number_at c ≡ Ok part → numbers_at u ≡ Ok facts
      → ◌≡◌ {A = Result Step ProofFault} (Ok (steps.View branch view part facts)) (Ok step) → Says d step
  view_from d step a b c u branch view part facts is h0 h1 h2 hf e =
      subst (Says d) (ok_same (steps.View branch view part facts) step e) (record { args = a ∷ b ∷ c ∷ []; last = u; is = is; numbers = (number_is a branch h0, (number_is b view h1, (number_is c part h2, tt))); facts_are = numbers_are u facts hf })

  view_is : (d : Data) (args : List Data) (step : Step) → d ≡ list_json (string (codes "view") ∷ args) → view_of args ≡ Ok step → Says d step
  view_is d [] step is e = cc e
  view_is d (a ∷ []) step is e = cc e
  view_is d (a ∷ b ∷ []) step is e = cc e
  view_is d (a ∷ b ∷ c ∷ []) step is e = cc e
  view_is d (a ∷ b ∷ c ∷ u ∷ []) step is e =
      let m0 = bound (number_at a) (λ n0. (number_at b >>= λ n1. (number_at c >>= λ n2. (numbers_at u >>= λ fs. Ok (steps.View n0 n1 n2 fs))))) step e in
      let m1 = bound (number_at b) (λ n1. (number_at c >>= λ n2. (numbers_at u >>= λ fs. Ok (steps.View m0.0 n1 n2 fs)))) step m0.2 in
      let m2 = bound (number_at c) (λ n2. (numbers_at u >>= λ fs. Ok (steps.View m0.0 m1.0 n2 fs))) step m1.2 in
      let all = bound (numbers_at u) (λ fs. Ok (steps.View m0.0 m1.0 m2.0 fs)) step m2.2 in
      view_from d step a b c u m0.0 m1.0 m2.0 all.0 is m0.1 m1.1 m2.1 all.1 all.2
  view_is d (a ∷ b ∷ c ∷ u ∷ w ∷ more) step is e = cc e

  absurd_from : (d : Data) (step : Step) (a : Data) (branch : ℕ) → d ≡ list_json (string (codes "absurd") ∷ a ∷ []) → number_at a ≡ Ok branch
      → ◌≡◌ {A = Result Step ProofFault} (Ok (steps.Absurd branch)) (Ok step) → Says d step
  absurd_from d step a branch is h0 e =
      subst (Says d) (ok_same (steps.Absurd branch) step e) (record { args = a ∷ []; is = is; numbers = (number_is a branch h0, tt) })

  absurd_is : (d : Data) (args : List Data) (step : Step) → d ≡ list_json (string (codes "absurd") ∷ args) → absurd_of args ≡ Ok step → Says d step
  absurd_is d [] step is e = cc e
  absurd_is d (a ∷ []) step is e =
      let m0 = bound (number_at a) (λ n0. (Ok (steps.Absurd n0))) step e in
      absurd_from d step a m0.0 is m0.1 m0.2
  absurd_is d (a ∷ b ∷ more) step is e = cc e

  goal_from : (d : Data) (step : Step) (a b c : Data) (branch part : ℕ) (facts : List ℕ) → d ≡ list_json (string (codes "goal") ∷ a ∷ b ∷ c ∷ []) → number_at a ≡ Ok branch → number_at b ≡ Ok part → numbers_at c ≡ Ok facts
      → ◌≡◌ {A = Result Step ProofFault} (Ok (steps.Goal branch part facts)) (Ok step) → Says d step
  goal_from d step a b c branch part facts is h0 h1 hf e =
      subst (Says d) (ok_same (steps.Goal branch part facts) step e) (record { args = a ∷ b ∷ []; last = c; is = is; numbers = (number_is a branch h0, (number_is b part h1, tt)); facts_are = numbers_are c facts hf })

  goal_is : (d : Data) (args : List Data) (step : Step) → d ≡ list_json (string (codes "goal") ∷ args) → goal_of args ≡ Ok step → Says d step
  goal_is d [] step is e = cc e
  goal_is d (a ∷ []) step is e = cc e
  goal_is d (a ∷ b ∷ []) step is e = cc e
  goal_is d (a ∷ b ∷ c ∷ []) step is e =
      let m0 = bound (number_at a) (λ n0. (number_at b >>= λ n1. (numbers_at c >>= λ fs. Ok (steps.Goal n0 n1 fs)))) step e in
      let m1 = bound (number_at b) (λ n1. (numbers_at c >>= λ fs. Ok (steps.Goal m0.0 n1 fs))) step m0.2 in
      let all = bound (numbers_at c) (λ fs. Ok (steps.Goal m0.0 m1.0 fs)) step m1.2 in
      goal_from d step a b c m0.0 m1.0 all.0 is m0.1 m1.1 all.1 all.2
  goal_is d (a ∷ b ∷ c ∷ u ∷ more) step is e = cc e

  entry_is : (d : Data) (args : List Data) (step : Step) → d ≡ list_json (string (codes "entry") ∷ args) → entry_of args ≡ Ok step → Says d step
  entry_is d [] step is e = cc e
  entry_is d (a ∷ []) step is e = cc e
  entry_is d (a ∷ b ∷ []) step is e =
      let m0 = bound (number_at a) (λ n0. (long_at b >>= λ n1. Ok (steps.Entry n0 n1))) step e in
      let m1 = bound (long_at b) (λ n1. Ok (steps.Entry m0.0 n1)) step m0.2 in
      subst (Says d) (ok_same (steps.Entry m0.0 m1.0) step m1.2)
      (record { a = a; b = b; is = is; first = number_is a m0.0 m0.1; second = long_is b m1.0 (good field.Steps (as_long b) m1.0 m1.1) })
  entry_is d (a ∷ b ∷ c ∷ more) step is e = cc e

  split_is : (d : Data) (args : List Data) (step : Step) → d ≡ list_json (string (codes "split") ∷ args) → split_of params vars args ≡ Ok step → Says d step
  split_is d [] step is e = cc e
  split_is d (a ∷ []) step is e = cc e
  split_is d (a ∷ b ∷ []) step is e =
      let m0 = bound (number_at a) (λ n0. (atom_at params vars b >>= λ n1. Ok (steps.Split n0 n1))) step e in
      let m1 = bound (atom_at params vars b) (λ n1. Ok (steps.Split m0.0 n1)) step m0.2 in
      subst (Says d) (ok_same (steps.Split m0.0 m1.0) step m1.2)
      (record { a = a; b = b; is = is; first = number_is a m0.0 m0.1; second = atom_is params vars b m1.0 m1.1 })
  split_is d (a ∷ b ∷ c ∷ more) step is e = cc e

  named_is : (d : Data) (name : List ℕ) (args : List Data) (step : Step) → d ≡ list_json (string name ∷ args) → named_of params vars version name args ≡ Ok step → Says d step
  unfolding named_of
  named_is d name args step is e =
      choose (Says d step) (bytes_eq name (codes "entry")) _ _ step e (λ b h. entry_is d args step (is ∙ ap (λ s. list_json (string s ∷ args)) (same_text name (codes "entry") b)) h)
      (λ e0. choose (Says d step) (bytes_eq name (codes "key")) _ _ step e0 (λ b h. key_is d args step (is ∙ ap (λ s. list_json (string s ∷ args)) (same_text name (codes "key") b)) h)
      (λ e1. choose (Says d step) (bytes_eq name (codes "link")) _ _ step e1 (λ b h. link_is d args step (is ∙ ap (λ s. list_json (string s ∷ args)) (same_text name (codes "link") b)) h)
      (λ e2. choose (Says d step) (bytes_eq name (codes "rule")) _ _ step e2 (λ b h. choose (Says d step) (nat_le RULE_VERSION version) _ _ step h (λ v k. rule_is d args step (is ∙ ap (λ s. list_json (string s ∷ args)) (same_text name (codes "rule") b)) k v) (λ k. cc k))
      (λ e3. choose (Says d step) (bytes_eq name (codes "view")) _ _ step e3 (λ b h. view_is d args step (is ∙ ap (λ s. list_json (string s ∷ args)) (same_text name (codes "view") b)) h)
      (λ e4. choose (Says d step) (bytes_eq name (codes "split")) _ _ step e4 (λ b h. split_is d args step (is ∙ ap (λ s. list_json (string s ∷ args)) (same_text name (codes "split") b)) h)
      (λ e5. choose (Says d step) (bytes_eq name (codes "absurd")) _ _ step e5 (λ b h. absurd_is d args step (is ∙ ap (λ s. list_json (string s ∷ args)) (same_text name (codes "absurd") b)) h)
      (λ e6. choose (Says d step) (bytes_eq name (codes "goal")) _ _ step e6 (λ b h. goal_is d args step (is ∙ ap (λ s. list_json (string s ∷ args)) (same_text name (codes "goal") b)) h)
      (λ e7. cc e7))))))))

  items_step : (d : Data) (ds : List Data) (step : Step) → d ≡ list_json ds → step_of params vars version ds ≡ Ok step → Says d step
  items_step d [] step is e = cc e
  items_step d (name ∷ args) step is e =
      let it = bound (text_at field.Steps name) (λ s. named_of params vars version s args) step e in
      named_is d it.0 args step (is ∙ ap (λ x. list_json (x ∷ args)) (text_is field.Steps name it.0 it.1)) it.2

  pub step_is : (d : Data) (step : Step) → step_at params vars version d ≡ Ok step → SaysStep params vars version d step
  unfolding step_at
  step_is d step e =
      let items = bound (list_at field.Steps d) (step_of params vars version) step e in
      items_step d items.0 step (list_is field.Steps d items.0 items.1) items.2

  -- ---- what is said is read

  named_at : (name : List ℕ) (args : List Data) → step_at params vars version (list_json (string name ∷ args)) ≡ named_of params vars version name args
  unfolding step_at
  named_at name args = ap (λ r. r >>= step_of params vars version) (list_said field.Steps (string name ∷ args))

  to_entry : (args : List Data) → named_of params vars version (codes "entry") args ≡ entry_of args
  unfolding named_of
  to_entry args = refl

  to_key : (args : List Data) → named_of params vars version (codes "key") args ≡ key_of args
  unfolding named_of
  to_key args = refl

  to_link : (args : List Data) → named_of params vars version (codes "link") args ≡ link_of args
  unfolding named_of
  to_link args = refl

  to_rule : (args : List Data) → named_of params vars version (codes "rule") args ≡ rule_in version args
  unfolding named_of
  to_rule args = refl

  to_view : (args : List Data) → named_of params vars version (codes "view") args ≡ view_of args
  unfolding named_of
  to_view args = refl

  to_split : (args : List Data) → named_of params vars version (codes "split") args ≡ split_of params vars args
  unfolding named_of
  to_split args = refl

  to_absurd : (args : List Data) → named_of params vars version (codes "absurd") args ≡ absurd_of args
  unfolding named_of
  to_absurd args = refl

  to_goal : (args : List Data) → named_of params vars version (codes "goal") args ≡ goal_of args
  unfolding named_of
  to_goal args = refl

  key_said : (args : List Data) (branch key left right : ℕ) → AllZip SaysShort args (branch ∷ key ∷ left ∷ right ∷ []) → key_of args ≡ Ok (steps.Key branch key left right)
  key_said [] branch key left right z = absurd z
  key_said (a ∷ []) branch key left right z = absurd z.1
  key_said (a ∷ b ∷ []) branch key left right z = absurd z.1.1
  key_said (a ∷ b ∷ c ∷ []) branch key left right z = absurd z.1.1.1
  key_said (a ∷ b ∷ c ∷ u ∷ []) branch key left right z = rw (number_said a branch z.0, number_said b key z.1.0, number_said c left z.1.1.0, number_said u right z.1.1.1.0) refl
  key_said (a ∷ b ∷ c ∷ u ∷ w ∷ more) branch key left right z = absurd z.1.1.1.1

  link_said : (args : List Data) (branch link fact : ℕ) → AllZip SaysShort args (branch ∷ link ∷ fact ∷ []) → link_of args ≡ Ok (steps.Link branch link fact)
  link_said [] branch link fact z = absurd z
  link_said (a ∷ []) branch link fact z = absurd z.1
  link_said (a ∷ b ∷ []) branch link fact z = absurd z.1.1
  link_said (a ∷ b ∷ c ∷ []) branch link fact z = rw (number_said a branch z.0, number_said b link z.1.0, number_said c fact z.1.1.0) refl
  link_said (a ∷ b ∷ c ∷ u ∷ more) branch link fact z = absurd z.1.1.1

  rule_said : (args : List Data) (last : Data) (branch rule part : ℕ) (facts : List ℕ) → AllZip SaysShort args (branch ∷ rule ∷ part ∷ []) → SaysEach SaysShort last facts
      → rule_of (args ++ last ∷ []) ≡ Ok (steps.Rule branch rule part facts)
  rule_said [] last branch rule part facts z fs = absurd z
  rule_said (a ∷ []) last branch rule part facts z fs = absurd z.1
  rule_said (a ∷ b ∷ []) last branch rule part facts z fs = absurd z.1.1
  rule_said (a ∷ b ∷ c ∷ []) last branch rule part facts z fs = rw (number_said a branch z.0, number_said b rule z.1.0, number_said c part z.1.1.0, numbers_said last facts fs) refl
  rule_said (a ∷ b ∷ c ∷ u ∷ more) last branch rule part facts z fs = absurd z.1.1.1

  view_said : (args : List Data) (last : Data) (branch view part : ℕ) (facts : List ℕ) → AllZip SaysShort args (branch ∷ view ∷ part ∷ []) → SaysEach SaysShort last facts
      → view_of (args ++ last ∷ []) ≡ Ok (steps.View branch view part facts)
  view_said [] last branch view part facts z fs = absurd z
  view_said (a ∷ []) last branch view part facts z fs = absurd z.1
  view_said (a ∷ b ∷ []) last branch view part facts z fs = absurd z.1.1
  view_said (a ∷ b ∷ c ∷ []) last branch view part facts z fs = rw (number_said a branch z.0, number_said b view z.1.0, number_said c part z.1.1.0, numbers_said last facts fs) refl
  view_said (a ∷ b ∷ c ∷ u ∷ more) last branch view part facts z fs = absurd z.1.1.1

  absurd_said : (args : List Data) (branch : ℕ) → AllZip SaysShort args (branch ∷ []) → absurd_of args ≡ Ok (steps.Absurd branch)
  absurd_said [] branch z = absurd z
  absurd_said (a ∷ []) branch z = rw (number_said a branch z.0) refl
  absurd_said (a ∷ b ∷ more) branch z = absurd z.1

  goal_said : (args : List Data) (last : Data) (branch part : ℕ) (facts : List ℕ) → AllZip SaysShort args (branch ∷ part ∷ []) → SaysEach SaysShort last facts
      → goal_of (args ++ last ∷ []) ≡ Ok (steps.Goal branch part facts)
  goal_said [] last branch part facts z fs = absurd z
  goal_said (a ∷ []) last branch part facts z fs = absurd z.1
  goal_said (a ∷ b ∷ []) last branch part facts z fs = rw (number_said a branch z.0, number_said b part z.1.0, numbers_said last facts fs) refl
  goal_said (a ∷ b ∷ c ∷ more) last branch part facts z fs = absurd z.1.1

  entry_said : (a b : Data) (branch entry : ℕ) → SaysShort a branch → SaysLong b entry → entry_of (a ∷ b ∷ []) ≡ Ok (steps.Entry branch entry)
  entry_said a b branch entry h k = rw (number_said a branch h) (ap (λ o. or_bad field.Steps o >>= λ n. Ok (steps.Entry branch n)) (long_said b entry k))

  split_said : (a b : Data) (branch : ℕ) (atom : TermAtom) → SaysShort a branch → SaysAtom params vars b atom → split_of params vars (a ∷ b ∷ []) ≡ Ok (steps.Split branch atom)
  split_said a b branch atom h k = rw (number_said a branch h, atom_said params vars b atom k) refl

  rule_step : (args : List Data) (step : Step) → RULE_VERSION ≤ version → rule_of args ≡ Ok step → rule_in version args ≡ Ok step
  rule_step args step le e = ap (λ b. cond b (rule_of args) (bad field.Steps)) (le-leb RULE_VERSION version le) ∙ e

  pub step_said : (d : Data) (step : Step) → SaysStep params vars version d step → step_at params vars version d ≡ Ok step
  step_said d (steps.Entry branch entry) h =
      ap (step_at params vars version) h.is ∙ (named_at (codes "entry") (h.a ∷ h.b ∷ []) ∙ (to_entry (h.a ∷ h.b ∷ []) ∙ entry_said h.a h.b branch entry h.first h.second))
  step_said d (steps.Split branch atom) h =
      ap (step_at params vars version) h.is ∙ (named_at (codes "split") (h.a ∷ h.b ∷ []) ∙ (to_split (h.a ∷ h.b ∷ []) ∙ split_said h.a h.b branch atom h.first h.second))
  step_said d (steps.Key branch key left right) h =
      ap (step_at params vars version) h.is ∙ (named_at (codes "key") h.args ∙ (to_key h.args ∙ key_said h.args branch key left right h.numbers))
  step_said d (steps.Link branch link fact) h =
      ap (step_at params vars version) h.is ∙ (named_at (codes "link") h.args ∙ (to_link h.args ∙ link_said h.args branch link fact h.numbers))
  step_said d (steps.Rule branch rule part facts) h =
      let says = h.1 in
      ap (step_at params vars version) says.is
      ∙ (named_at (codes "rule") (says.args ++ says.last ∷ [])
      ∙ (to_rule (says.args ++ says.last ∷ [])
      ∙ rule_step (says.args ++ says.last ∷ []) (steps.Rule branch rule part facts) h.0 (rule_said says.args says.last branch rule part facts says.numbers says.facts_are)))
  step_said d (steps.View branch view part facts) h =
      ap (step_at params vars version) h.is
      ∙ (named_at (codes "view") (h.args ++ h.last ∷ []) ∙ (to_view (h.args ++ h.last ∷ []) ∙ view_said h.args h.last branch view part facts h.numbers h.facts_are))
  step_said d (steps.Absurd branch) h =
      ap (step_at params vars version) h.is ∙ (named_at (codes "absurd") h.args ∙ (to_absurd h.args ∙ absurd_said h.args branch h.numbers))
  step_said d (steps.Goal branch part facts) h =
      ap (step_at params vars version) h.is
      ∙ (named_at (codes "goal") (h.args ++ h.last ∷ []) ∙ (to_goal (h.args ++ h.last ∷ []) ∙ goal_said h.args h.last branch part facts h.numbers h.facts_are))

  -- ---- what is no step is a bad field

  key_only : (args : List Data) → OnlyBad field.Steps (key_of args)
  key_only [] = only_bad field.Steps
  key_only (a ∷ []) = only_bad field.Steps
  key_only (a ∷ b ∷ []) = only_bad field.Steps
  key_only (a ∷ b ∷ c ∷ []) = only_bad field.Steps
  key_only (a ∷ b ∷ c ∷ u ∷ []) =
      only_bind field.Steps (number_at a) (λ n0. (number_at b >>= λ n1. (number_at c >>= λ n2. (number_at u >>= λ n3. (Ok (steps.Key n0 n1 n2 n3)))))) (number_only a) (λ m0. only_bind field.Steps (number_at b) (λ n1. (number_at c >>= λ n2. (number_at u >>= λ n3. (Ok (steps.Key m0 n1 n2 n3))))) (number_only b) (λ m1. only_bind field.Steps (number_at c) (λ n2. (number_at u >>= λ n3. (Ok (steps.Key m0 m1 n2 n3)))) (number_only c) (λ m2. only_bind field.Steps (number_at u) (λ n3. (Ok (steps.Key m0 m1 m2 n3))) (number_only u) (λ m3. only_ok field.Steps (steps.Key m0 m1 m2 m3)))))
  key_only (a ∷ b ∷ c ∷ u ∷ w ∷ more) = only_bad field.Steps

  link_only : (args : List Data) → OnlyBad field.Steps (link_of args)
  link_only [] = only_bad field.Steps
  link_only (a ∷ []) = only_bad field.Steps
  link_only (a ∷ b ∷ []) = only_bad field.Steps
  link_only (a ∷ b ∷ c ∷ []) =
      only_bind field.Steps (number_at a) (λ n0. (number_at b >>= λ n1. (number_at c >>= λ n2. (Ok (steps.Link n0 n1 n2))))) (number_only a) (λ m0. only_bind field.Steps (number_at b) (λ n1. (number_at c >>= λ n2. (Ok (steps.Link m0 n1 n2)))) (number_only b) (λ m1. only_bind field.Steps (number_at c) (λ n2. (Ok (steps.Link m0 m1 n2))) (number_only c) (λ m2. only_ok field.Steps (steps.Link m0 m1 m2))))
  link_only (a ∷ b ∷ c ∷ u ∷ more) = only_bad field.Steps

  rule_only : (args : List Data) → OnlyBad field.Steps (rule_of args)
  rule_only [] = only_bad field.Steps
  rule_only (a ∷ []) = only_bad field.Steps
  rule_only (a ∷ b ∷ []) = only_bad field.Steps
  rule_only (a ∷ b ∷ c ∷ []) = only_bad field.Steps
  rule_only (a ∷ b ∷ c ∷ u ∷ []) =
      only_bind field.Steps (number_at a) (λ n0. (number_at b >>= λ n1. (number_at c >>= λ n2. (numbers_at u >>= λ fs. Ok (steps.Rule n0 n1 n2 fs))))) (number_only a) (λ m0. only_bind field.Steps (number_at b) (λ n1. (number_at c >>= λ n2. (numbers_at u >>= λ fs. Ok (steps.Rule m0 n1 n2 fs)))) (number_only b) (λ m1. only_bind field.Steps (number_at c) (λ n2. (numbers_at u >>= λ fs. Ok (steps.Rule m0 m1 n2 fs))) (number_only c) (λ m2. only_bind field.Steps (numbers_at u) (λ fs. Ok (steps.Rule m0 m1 m2 fs)) (numbers_only u) (λ fs. only_ok field.Steps (steps.Rule m0 m1 m2 fs)))))
  rule_only (a ∷ b ∷ c ∷ u ∷ w ∷ more) = only_bad field.Steps

  view_only : (args : List Data) → OnlyBad field.Steps (view_of args)
  view_only [] = only_bad field.Steps
  view_only (a ∷ []) = only_bad field.Steps
  view_only (a ∷ b ∷ []) = only_bad field.Steps
  view_only (a ∷ b ∷ c ∷ []) = only_bad field.Steps
  view_only (a ∷ b ∷ c ∷ u ∷ []) =
      only_bind field.Steps (number_at a) (λ n0. (number_at b >>= λ n1. (number_at c >>= λ n2. (numbers_at u >>= λ fs. Ok (steps.View n0 n1 n2 fs))))) (number_only a) (λ m0. only_bind field.Steps (number_at b) (λ n1. (number_at c >>= λ n2. (numbers_at u >>= λ fs. Ok (steps.View m0 n1 n2 fs)))) (number_only b) (λ m1. only_bind field.Steps (number_at c) (λ n2. (numbers_at u >>= λ fs. Ok (steps.View m0 m1 n2 fs))) (number_only c) (λ m2. only_bind field.Steps (numbers_at u) (λ fs. Ok (steps.View m0 m1 m2 fs)) (numbers_only u) (λ fs. only_ok field.Steps (steps.View m0 m1 m2 fs)))))
  view_only (a ∷ b ∷ c ∷ u ∷ w ∷ more) = only_bad field.Steps

  absurd_only : (args : List Data) → OnlyBad field.Steps (absurd_of args)
  absurd_only [] = only_bad field.Steps
  absurd_only (a ∷ []) =
      only_bind field.Steps (number_at a) (λ n0. (Ok (steps.Absurd n0))) (number_only a) (λ m0. only_ok field.Steps (steps.Absurd m0))
  absurd_only (a ∷ b ∷ more) = only_bad field.Steps

  goal_only : (args : List Data) → OnlyBad field.Steps (goal_of args)
  goal_only [] = only_bad field.Steps
  goal_only (a ∷ []) = only_bad field.Steps
  goal_only (a ∷ b ∷ []) = only_bad field.Steps
  goal_only (a ∷ b ∷ c ∷ []) =
      only_bind field.Steps (number_at a) (λ n0. (number_at b >>= λ n1. (numbers_at c >>= λ fs. Ok (steps.Goal n0 n1 fs)))) (number_only a) (λ m0. only_bind field.Steps (number_at b) (λ n1. (numbers_at c >>= λ fs. Ok (steps.Goal m0 n1 fs))) (number_only b) (λ m1. only_bind field.Steps (numbers_at c) (λ fs. Ok (steps.Goal m0 m1 fs)) (numbers_only c) (λ fs. only_ok field.Steps (steps.Goal m0 m1 fs))))
  goal_only (a ∷ b ∷ c ∷ u ∷ more) = only_bad field.Steps

  entry_only : (args : List Data) → OnlyBad field.Steps (entry_of args)
  entry_only [] = only_bad field.Steps
  entry_only (a ∷ []) = only_bad field.Steps
  entry_only (a ∷ b ∷ []) =
      only_bind field.Steps (number_at a) (λ n0. (long_at b >>= λ n1. Ok (steps.Entry n0 n1))) (number_only a)
      (λ m0. only_bind field.Steps (long_at b) (λ n1. Ok (steps.Entry m0 n1)) (long_only b) (λ m1. only_ok field.Steps (steps.Entry m0 m1)))
  entry_only (a ∷ b ∷ c ∷ more) = only_bad field.Steps

  split_only : (args : List Data) → OnlyBad field.Steps (split_of params vars args)
  split_only [] = only_bad field.Steps
  split_only (a ∷ []) = only_bad field.Steps
  split_only (a ∷ b ∷ []) =
      only_bind field.Steps (number_at a) (λ n0. (atom_at params vars b >>= λ n1. Ok (steps.Split n0 n1))) (number_only a)
      (λ m0. only_bind field.Steps (atom_at params vars b) (λ n1. Ok (steps.Split m0 n1)) (atom_only params vars b) (λ m1. only_ok field.Steps (steps.Split m0 m1)))
  split_only (a ∷ b ∷ c ∷ more) = only_bad field.Steps

  named_only : (name : List ℕ) (args : List Data) → OnlyBad field.Steps (named_of params vars version name args)
  unfolding named_of
  named_only name args =
      only_cond field.Steps (bytes_eq name (codes "entry")) _ _ (entry_only args)
      (only_cond field.Steps (bytes_eq name (codes "key")) _ _ (key_only args)
      (only_cond field.Steps (bytes_eq name (codes "link")) _ _ (link_only args)
      (only_cond field.Steps (bytes_eq name (codes "rule")) _ _ (only_cond field.Steps (nat_le RULE_VERSION version) _ _ (rule_only args) (only_bad field.Steps))
      (only_cond field.Steps (bytes_eq name (codes "view")) _ _ (view_only args)
      (only_cond field.Steps (bytes_eq name (codes "split")) _ _ (split_only args)
      (only_cond field.Steps (bytes_eq name (codes "absurd")) _ _ (absurd_only args)
      (only_cond field.Steps (bytes_eq name (codes "goal")) _ _ (goal_only args) (only_bad field.Steps))))))))

  items_only : (ds : List Data) → OnlyBad field.Steps (step_of params vars version ds)
  items_only [] = only_bad field.Steps
  items_only (name ∷ args) = only_bind field.Steps (text_at field.Steps name) (λ s. named_of params vars version s args) (only_or field.Steps _) (λ s. named_only s args)

  pub step_only : (d : Data) → OnlyBad field.Steps (step_at params vars version d)
  unfolding step_at
  step_only d = only_bind field.Steps (list_at field.Steps d) (step_of params vars version) (only_or field.Steps (as_list d)) items_only
