-- What the pass leaves, group by group.
use Rattle.std.proofs.Common.{◌≡◌, ℕ, ◌+◌, ◌-◌, ◌≤◌, Bool, true, false, List, [], ◌++◌, length, take, drop, replicate, refl, sym, ap, ap₂, ◌∙◌, subst, append_assoc, append-nil, arith}
use Rattle.std.proofs.lemmas.List.{length-append, length-drop, length-replicate, length-take-le, replicate-append-replicate}
use Rattle.std.proofs.lemmas.List.Elements.{All-append, All-drop, All-replicate, All-take}
use Rattle.std.specs.Prelude.{All}
use Rattle.ba_kernel.specs.declared.problem.Problem.{Problem}
use Rattle.ba_kernel.specs.declared.step.Step.{Step}
use Rattle.ba_model.specs.declared.query.Atom.{Atom}
use Rattle.ba_general.proofs.DroppingLemmas.{all_dropped, first_part, kept_all, kept_append, kept_without, last_part, middle_part, one_stays, split_three}
use Rattle.ba_general.proofs.FullFitsLemmas.{kept_fit}
use Rattle.ba_general.specs.Conditions.{IsCondition, IsFull}
use Rattle.ba_general.specs.Dropping.{AllKept, CanBeAssumed, Drops, DropsRun, IsAccepted, RunDropsEach, between, kept_atoms}
use Rattle.ba_general.specs.declared.pattern.Valued.{Valued}

-- ---- one call's run

module _ (g : Problem) (steps : List Step) (atoms : List Atom) (old : List Bool) (first end : ℕ) where
  pub empty_run : (P : List Atom → Type 0) (new : List Bool) → end ≤ first → new ≡ old → DropsRun P atoms old new first end
  empty_run P new past same =
      let none : end - first ≡ 0 = omega arith in
      let run : between first end atoms ≡ [] = ap (λ n. take n (drop first atoms)) none in
      record {
        before = ap (take first) same;
        after = ap (drop end) same;
        run =
            subst (λ xs. Drops P (kept_atoms (take first atoms) (take first old)) xs (kept_atoms (drop end atoms) (drop end old)) (kept_atoms xs (between first end new))) (sym run)
            Drops.done;
      }

  -- all of it can be dropped
  pub run_told : (new : List Bool) → first ≤ end → end ≤ length atoms → length old ≡ length atoms → new ≡ take first old ++ replicate (end - first) false ++ drop end old →
      All CanBeAssumed atoms → RunDropsEach → IsAccepted g steps (kept_atoms atoms new) → DropsRun (IsAccepted g steps) atoms old new first end
  run_told new from there flags e can each accepted =
      let run : List Atom = between first end atoms in
      let can_run : All CanBeAssumed run = All-take CanBeAssumed (end - first) (drop first atoms) (All-drop CanBeAssumed first atoms can) in
      let can_before = kept_fit CanBeAssumed (take first atoms) (take first old) (All-take CanBeAssumed first atoms can) in
      let can_behind = kept_fit CanBeAssumed (drop end atoms) (drop end old) (All-drop CanBeAssumed end atoms can) in
      let before : List Atom = kept_atoms (take first atoms) (take first old) in
      let behind : List Atom = kept_atoms (drop end atoms) (drop end old) in
      all_dropped atoms old first end from there flags (IsAccepted g steps) new e
      (each g steps (kept_atoms (take first atoms) (take first old)) (between first end atoms) (kept_atoms (drop end atoms) (drop end old))
      (All-append CanBeAssumed (before ++ run) behind (All-append CanBeAssumed before run can_before can_run) can_behind)
      (subst (IsAccepted g steps) (kept_without atoms old first end from there flags new e) accepted))

  -- the one atom of it can't
  pub run_one : (dropped new : List Bool) → end - first ≡ 1 → end ≤ length atoms → length old ≡ length atoms → AllKept (between first end old) →
      dropped ≡ take first old ++ replicate (end - first) false ++ drop end old → ¬ (IsAccepted g steps (kept_atoms atoms dropped)) → new ≡ old →
      DropsRun (IsAccepted g steps) atoms old new first end
  run_one dropped new one there flags all e none same =
      let from : first ≤ end = omega arith in
      one_stays (IsAccepted g steps) atoms old new first end one there flags all same
      (λ accepted. none (subst (IsAccepted g steps) (sym (kept_without atoms old first end from there flags dropped e)) accepted))

-- ---- a run between what stands before it and behind it

record RunParts (P : List Atom → Type 0) (us run vs : List Atom) (ks ls new : List Bool) : Type 0 where
  flags : List Bool
  new_is : new ≡ ks ++ flags ++ ls
  wide : length flags ≡ length run
  drops : Drops P (kept_atoms us ks) run (kept_atoms vs ls) (kept_atoms run flags)

run_parts : (P : List Atom → Type 0) (atoms us run vs : List Atom) (old new ks ms ls : List Bool) (first end : ℕ) → atoms ≡ us ++ run ++ vs →
    old ≡ ks ++ ms ++ ls → length ks ≡ length us → length ms ≡ length run → first ≡ length us → end ≡ length (us ++ run) → length new ≡ length atoms →
    DropsRun P atoms old new first end → RunParts P us run vs ks ls new
run_parts P atoms us run vs old new ks ms ls first end atoms_is old_is wide_ks wide_ms first_is end_is flags h =
    let total : length atoms ≡ length us + length run + length vs =
    ap length atoms_is ∙ (length-append (us ++ run) vs ∙ ap (λ n. n + length vs) (length-append us run)) in
    let end_at : end ≡ length us + length run = end_is ∙ length-append us run in
    let from : first ≤ end = omega arith in
    let there : end ≤ length new = omega arith in
    let us_at : length us ≡ first = sym first_is in
    let ks_at : length ks ≡ first = wide_ks ∙ us_at in
    let run_at : length run ≡ end - first = omega arith in
    let ms_at : length ms ≡ end - first = wide_ms ∙ run_at in
    let front : take first new ≡ ks = h.before ∙ (ap (take first) old_is ∙ first_part ks ms ls first ks_at) in
    let back : drop end new ≡ ls = h.after ∙ (ap (drop end) old_is ∙ last_part ks ms ls first end ks_at ms_at from) in
    let mid : List Bool = between first end new in
    let wide_mid : length mid ≡ length run =
    length-take-le (end - first) (drop first new) (omega (arith, length-drop first new)) ∙ sym run_at in
    let run_is : between first end atoms ≡ run = ap (between first end) atoms_is ∙ middle_part us run vs first end us_at run_at in
    record {
      flags = mid;
      new_is = split_three new first end from there ∙ ap₂ (λ xs ys. xs ++ mid ++ ys) front back;
      wide = wide_mid;
      drops =
          subst (λ xs. Drops P (kept_atoms us ks) xs (kept_atoms vs ls) (kept_atoms xs mid)) run_is
          (subst (λ xs. Drops P xs (between first end atoms) (kept_atoms vs ls) (kept_atoms (between first end atoms) mid))
          (ap₂ kept_atoms (ap (take first) atoms_is ∙ first_part us run vs first us_at) (ap (take first) old_is ∙ first_part ks ms ls first ks_at))
          (subst (λ xs. Drops P (kept_atoms (take first atoms) (take first old)) (between first end atoms) xs (kept_atoms (between first end atoms) mid))
          (ap₂ kept_atoms (ap (drop end) atoms_is ∙ last_part us run vs first end us_at run_at from) (ap (drop end) old_is ∙ last_part ks ms ls first end ks_at ms_at from))
          h.run));
    }

-- all of a list is kept
pub whole : (xs : List Atom) → kept_atoms xs (replicate (length xs) true) ≡ xs
whole xs = kept_all xs (replicate (length xs) true) (sym (length-replicate (length xs) true)) (All-replicate (λ k. k ≡ true) (length xs) true refl)

two_parts : (xs ys : List Atom) → replicate (length (xs ++ ys)) true ≡ replicate (length xs) true ++ replicate (length ys) true
two_parts xs ys = ap (λ n. replicate n true) (length-append xs ys) ∙ sym (replicate-append-replicate (length xs) (length ys) true)

-- the four groups, one after another
pub four_runs : (g : Problem) (operands : List Valued) (taken : List Step) (fixed less apart equal atoms : List Atom) (k0 k1 k2 k3 k4 : List Bool) (e1 e2 e3 : ℕ) →
    IsFull operands fixed less apart equal → IsAccepted g taken (fixed ++ less ++ apart ++ equal) → atoms ≡ fixed ++ less ++ apart ++ equal →
    k0 ≡ replicate (length atoms) true → e1 ≡ length fixed → e2 ≡ length (fixed ++ less) → e3 ≡ length (fixed ++ less ++ apart) →
    length k1 ≡ length atoms → length k2 ≡ length atoms → length k3 ≡ length atoms → length k4 ≡ length atoms →
    DropsRun (IsAccepted g taken) atoms k0 k1 0 e1 → DropsRun (IsAccepted g taken) atoms k1 k2 e1 e2 → DropsRun (IsAccepted g taken) atoms k2 k3 e2 e3 →
    DropsRun (IsAccepted g taken) atoms k3 k4 e3 (length atoms) → IsCondition g operands taken (kept_atoms atoms k4)
four_runs g operands taken fixed less apart equal atoms k0 k1 k2 k3 k4 e1 e2 e3 full accepted atoms_is k0_is e1_is e2_is e3_is f1 f2 f3 f4 r1 r2 r3 r4 =
    let P : List Atom → Type 0 = IsAccepted g taken in
    let t : List Atom → List Bool = λ xs. replicate (length xs) true in
    let regroup : (xs : List Atom) → fixed ++ less ++ apart ++ xs ≡ fixed ++ (less ++ apart ++ xs) =
    λ xs. ap (λ ys. ys ++ xs) (append_assoc fixed less apart) ∙ append_assoc fixed (less ++ apart) xs in
    let rest_is : fixed ++ less ++ apart ++ equal ≡ fixed ++ less ++ (apart ++ equal) = append_assoc (fixed ++ less) apart equal in
    let h1 : RunParts P [] fixed (less ++ apart ++ equal) [] (t (less ++ apart ++ equal)) k1 =
    run_parts P atoms [] fixed (less ++ apart ++ equal) k0 k1 [] (t fixed) (t (less ++ apart ++ equal)) 0 e1 (atoms_is ∙ regroup equal)
    (k0_is ∙ (ap (λ xs. replicate (length xs) true) (atoms_is ∙ regroup equal) ∙ two_parts fixed (less ++ apart ++ equal))) refl (length-replicate (length fixed) true) refl e1_is f1 r1 in
    let wide1 : length h1.flags ≡ length fixed = h1.wide in
    let k1_is : k1 ≡ h1.flags ++ t less ++ t (apart ++ equal) =
    h1.new_is ∙ (ap (λ ks. h1.flags ++ ks) (ap (λ xs. replicate (length xs) true) (append_assoc less apart equal) ∙ two_parts less (apart ++ equal)) ∙
    sym (append_assoc h1.flags (t less) (t (apart ++ equal)))) in
    let h2 : RunParts P fixed less (apart ++ equal) h1.flags (t (apart ++ equal)) k2 =
    run_parts P atoms fixed less (apart ++ equal) k1 k2 h1.flags (t less) (t (apart ++ equal)) e1 e2 (atoms_is ∙ rest_is) k1_is wide1 (length-replicate (length less) true) e1_is e2_is f2 r2 in
    let wide2 : length (h1.flags ++ h2.flags) ≡ length (fixed ++ less) =
    length-append h1.flags h2.flags ∙ (ap₂ (λ n m. n + m) wide1 h2.wide ∙ sym (length-append fixed less)) in
    let k2_is : k2 ≡ (h1.flags ++ h2.flags) ++ t apart ++ t equal =
    h2.new_is ∙ (ap (λ ks. h1.flags ++ h2.flags ++ ks) (two_parts apart equal) ∙ sym (append_assoc (h1.flags ++ h2.flags) (t apart) (t equal))) in
    let h3 : RunParts P (fixed ++ less) apart equal (h1.flags ++ h2.flags) (t equal) k3 =
    run_parts P atoms (fixed ++ less) apart equal k2 k3 (h1.flags ++ h2.flags) (t apart) (t equal) e2 e3 atoms_is k2_is wide2 (length-replicate (length apart) true) e2_is e3_is f3 r3 in
    let wide3 : length (h1.flags ++ h2.flags ++ h3.flags) ≡ length (fixed ++ less ++ apart) =
    length-append (h1.flags ++ h2.flags) h3.flags ∙ (ap₂ (λ n m. n + m) wide2 h3.wide ∙ sym (length-append (fixed ++ less) apart)) in
    let h4 : RunParts P (fixed ++ less ++ apart) equal [] (h1.flags ++ h2.flags ++ h3.flags) [] k4 =
    run_parts P atoms (fixed ++ less ++ apart) equal [] k3 k4 (h1.flags ++ h2.flags ++ h3.flags) (t equal) [] e3 (length atoms)
    (atoms_is ∙ sym (append-nil (fixed ++ less ++ apart ++ equal))) (h3.new_is ∙ sym (append-nil (h1.flags ++ h2.flags ++ h3.flags ++ t equal))) wide3
    (length-replicate (length equal) true) e3_is (ap length atoms_is) f4 r4 in
    let fixed_left : List Atom = kept_atoms fixed h1.flags in
    let less_left : List Atom = kept_atoms less h2.flags in
    let apart_left : List Atom = kept_atoms apart h3.flags in
    let equal_left : List Atom = kept_atoms equal h4.flags in
    let two : kept_atoms (fixed ++ less) (h1.flags ++ h2.flags) ≡ fixed_left ++ less_left = kept_append fixed less h1.flags h2.flags (sym wide1) in
    let three : kept_atoms (fixed ++ less ++ apart) (h1.flags ++ h2.flags ++ h3.flags) ≡ fixed_left ++ less_left ++ apart_left =
    kept_append (fixed ++ less) apart (h1.flags ++ h2.flags) h3.flags (sym wide2) ∙ ap (λ xs. xs ++ apart_left) two in
    record {
      fixed = fixed;
      less = less;
      apart = apart;
      equal = equal;
      full = full;
      accepted = accepted;
      fixed_left = fixed_left;
      less_left = less_left;
      apart_left = apart_left;
      equal_left = equal_left;
      fixed_drops = subst (λ xs. Drops P [] fixed xs fixed_left) (whole (less ++ apart ++ equal)) h1.drops;
      less_drops = subst (λ xs. Drops P fixed_left less xs less_left) (whole (apart ++ equal)) h2.drops;
      apart_drops = subst (λ xs. Drops P (fixed_left ++ less_left) apart xs apart_left) (whole equal) (subst (λ xs. Drops P xs apart (kept_atoms equal (t equal)) apart_left) two h3.drops);
      equal_drops = subst (λ xs. Drops P xs equal [] equal_left) three h4.drops;
      condition_is =
          ap (λ xs. kept_atoms xs k4) atoms_is ∙
          (ap (kept_atoms (fixed ++ less ++ apart ++ equal)) (h4.new_is ∙ append-nil (h1.flags ++ h2.flags ++ h3.flags ++ h4.flags)) ∙
          (kept_append (fixed ++ less ++ apart) equal (h1.flags ++ h2.flags ++ h3.flags) h4.flags (sym wide3) ∙ ap (λ xs. xs ++ equal_left) three));
    }
