-- A run that is dropped at once: the same in two parts, and the groups one after another.
use Rattle.std.proofs.Common.{◌≡◌, ℕ, ◌+◌, ◌-◌, ◌≤◌, Bool, true, false, List, [], ◌∷◌, ◌++◌, length, take, drop, replicate, refl, sym, ap, ap₂, ◌∙◌, subst, append_assoc, append-nil, arith}
use Rattle.std.proofs.lemmas.Bool.{false≢true}
use Rattle.std.proofs.lemmas.List.{drop-drop, drop_at, length-append, length-drop, length-replicate, length-take-le, replicate-append-replicate, take_at}
use Rattle.std.proofs.lemmas.Option.{none-some, same_Some}
use Rattle.std.specs.Prelude.{◌↔◌, All, Option, Some, None, is_some, not}
use Rattle.ba_kernel.specs.Replays.{Closes}
use Rattle.ba_kernel.specs.SearchStates.{Proof}
use Rattle.ba_kernel.specs.declared.problem.Problem.{Problem}
use Rattle.ba_kernel.specs.declared.step.Step.{Step}
use Rattle.ba_model.specs.declared.query.Atom.{Atom}
use Rattle.ba_general.proofs.AcceptedLemmas.{acceptance_grows, each_dropped, some_append, some_of_all}
use Rattle.ba_general.proofs.DroppingLemmas.{first_part, kept_with, kept_without, split_three, take_parts}
use Rattle.ba_general.proofs.FullFitsLemmas.{kept_fit}
use Rattle.ba_general.proofs.PassLemmas.{run_told}
use Rattle.ba_general.specs.Conditions.{AreUp, DropsGroups}
use Rattle.ba_general.specs.Dropping.{AreSomeOf, CanBeAssumed, IsAccepted, IsLast, IsProofBy, IsRefusedAtOnce, IsTriedAtOnce, between, kept_atoms, without_run}
use Rattle.ba_general.specs.Patterns.{assuming}
use Rattle.ba_general.specs.declared.dropping.Ends.{Ends}

-- ---- what a try tells

module _ (P : List Atom → Type 0) (atoms : List Atom) (old new : List Bool) (first end : ℕ) {asked : Bool} where
  pub tried_gone : (gone : Bool) → IsTriedAtOnce P atoms old new first end asked gone → gone ≡ true →
      P (kept_atoms atoms (without_run old first end)) × (new ≡ without_run old first end)
  tried_gone true (IsTriedAtOnce.gone accepted is) e = (accepted, is)
  tried_gone false (IsTriedAtOnce.stays refused is) e = absurd (false≢true e)

  pub tried_kept : (gone : Bool) → IsTriedAtOnce P atoms old new first end asked gone → gone ≡ false → new ≡ old
  tried_kept true (IsTriedAtOnce.gone accepted is) e = absurd (false≢true (sym e))
  tried_kept false (IsTriedAtOnce.stays refused is) e = is

  pub tried_refused : (gone : Bool) → IsTriedAtOnce P atoms old new first end asked gone → gone ≡ false → asked ≡ true → IsRefusedAtOnce P atoms old first end
  tried_refused true (IsTriedAtOnce.gone accepted is) e k = absurd (false≢true (sym e))
  tried_refused false (IsTriedAtOnce.stays refused is) e k = refused k

-- it was known, or the try told it
pub refused_anyhow : (R : Type 0) (refused : Bool) → (refused ≡ true → R) → (not refused ≡ true → R) → R
refused_anyhow R true known told = known refl
refused_anyhow R false known told = told refl

-- ---- the proof that was made last

pub proof_told : (p : Problem) (taken : List Step) (proof : Option Proof) → IsProofBy p taken proof → is_some proof ≡ true ↔ Closes p taken
proof_told p taken None h = ((λ yes. absurd (false≢true yes)), (λ closes. absurd (h closes)))
proof_told p taken (Some it) h = ((λ yes. h.0), (λ closes. refl))

pub last_none : (g : Problem) (taken : List Step) (atoms : List Atom) (ks : List Bool) (last : Option Proof) → last ≡ None → IsLast g taken atoms ks last
last_none g taken atoms ks last none = record { is = λ it e. absurd (none-some it (sym none ∙ e)) }

pub last_some : (g : Problem) (taken : List Step) (atoms : List Atom) (ks : List Bool) (it : Proof) →
    it ≡ record { problem = assuming g (kept_atoms atoms ks); steps = taken } → IsLast g taken atoms ks (Some it)
last_some g taken atoms ks it is = record { is = λ other e. same_Some other it (sym e) ∙ is }

-- the same of equal lists
pub last_moved : (g h : Problem) (taken others : List Step) (atoms some : List Atom) (ks ls : List Bool) (last same : Option Proof) → g ≡ h → taken ≡ others →
    atoms ≡ some → ks ≡ ls → last ≡ same → IsLast g taken atoms ks last → IsLast h others some ls same
last_moved g h taken others atoms some ks ls last same p q r k l held =
    subst (λ x. IsLast x others some ls same) p
    (subst (λ x. IsLast g x some ls same) q
    (subst (λ x. IsLast g taken x ls same) r (subst (λ x. IsLast g taken atoms x same) k (subst (λ x. IsLast g taken atoms ks x) l held))))

pub proof_moved : (g h : Problem) (taken others : List Step) (atoms some : List Atom) (ks ls : List Bool) (proof : Option Proof) → g ≡ h → taken ≡ others → atoms ≡ some →
    ks ≡ ls → IsProofBy (assuming g (kept_atoms atoms ks)) taken proof → IsProofBy (assuming h (kept_atoms some ls)) others proof
proof_moved g h taken others atoms some ks ls proof p q r k by =
    subst (λ x. IsProofBy (assuming x (kept_atoms some ls)) others proof) p
    (subst (λ x. IsProofBy (assuming g (kept_atoms some ls)) x proof) q
    (subst (λ x. IsProofBy (assuming g (kept_atoms x ls)) taken proof) r (subst (λ x. IsProofBy (assuming g (kept_atoms atoms x)) taken proof) k by)))

-- ---- flags of which a run is gone

module _ (ks : List Bool) where
  pub without_long : (a c : ℕ) → a ≤ c → c ≤ length ks → length (without_run ks a c) ≡ length ks
  without_long a c ac cl =
      let front : length (take a ks) ≡ a = length-take-le a ks (omega (arith, ac, cl)) in
      omega (
        arith,
        ac,
        cl,
        front,
        length-append (take a ks ++ replicate (c - a) false) (drop c ks),
        length-append (take a ks) (replicate (c - a) false),
        length-replicate (c - a) false,
        length-drop c ks,
      )

  two_gone : (a b c : ℕ) → a ≤ b → b ≤ c → take a ks ++ replicate (b - a) false ++ (replicate (c - b) false ++ drop c ks) ≡ without_run ks a c
  two_gone a b c ab bc =
      sym (append_assoc (take a ks ++ replicate (b - a) false) (replicate (c - b) false) (drop c ks)) ∙
      ap (λ xs. xs ++ drop c ks)
      (append_assoc (take a ks) (replicate (b - a) false) (replicate (c - b) false) ∙
      ap (λ xs. take a ks ++ xs)
      (replicate-append-replicate (b - a) (c - b) false ∙ ap (λ n. replicate n false) (let e : (b - a) + (c - b) ≡ c - a = omega (arith, ab, bc) in e)))

  -- the later part first
  pub without_earlier : (a b c : ℕ) → a ≤ b → b ≤ c → c ≤ length ks → without_run (without_run ks b c) a b ≡ without_run ks a c
  without_earlier a b c ab bc cl =
      let wide_a : length (take a ks) ≡ a = length-take-le a ks (omega (arith, ab, bc, cl)) in
      let wide_b : length (take b ks) ≡ b = length-take-le b ks (omega (arith, bc, cl)) in
      let parts : without_run ks b c ≡ take a ks ++ (between a b ks ++ replicate (c - b) false) ++ drop c ks =
      ap (λ xs. xs ++ replicate (c - b) false ++ drop c ks) (take_parts ks a b ab) ∙
      ap (λ xs. xs ++ drop c ks) (append_assoc (take a ks) (between a b ks) (replicate (c - b) false)) in
      let front : take a (without_run ks b c) ≡ take a ks =
      ap (take a) parts ∙ first_part (take a ks) (between a b ks ++ replicate (c - b) false) (drop c ks) a wide_a in
      let back : drop b (without_run ks b c) ≡ replicate (c - b) false ++ drop c ks =
      ap (drop b) (append_assoc (take b ks) (replicate (c - b) false) (drop c ks)) ∙ drop_at (take b ks) (replicate (c - b) false ++ drop c ks) b wide_b in
      ap₂ (λ us vs. us ++ replicate (b - a) false ++ vs) front back ∙ two_gone a b c ab bc

  -- the earlier part first
  pub without_later : (a b c : ℕ) → a ≤ b → b ≤ c → c ≤ length ks → without_run (without_run ks a b) b c ≡ without_run ks a c
  without_later a b c ab bc cl =
      let wide_a : length (take a ks) ≡ a = length-take-le a ks (omega (arith, ab, bc, cl)) in
      let wide : length (take a ks ++ replicate (b - a) false) ≡ b =
      omega (arith, ab, wide_a, length-append (take a ks) (replicate (b - a) false), length-replicate (b - a) false) in
      let front : take b (without_run ks a b) ≡ take a ks ++ replicate (b - a) false = take_at (take a ks ++ replicate (b - a) false) (drop b ks) b wide in
      let at : b + (c - b) ≡ c = omega (arith, bc) in
      let back : drop c (without_run ks a b) ≡ drop c ks =
      ap (λ n. drop n (without_run ks a b)) (sym at) ∙
      (sym (drop-drop (c - b) b (without_run ks a b)) ∙
      (ap (drop (c - b)) (drop_at (take a ks ++ replicate (b - a) false) (drop b ks) b wide) ∙ (drop-drop (c - b) b ks ∙ ap (λ n. drop n ks) at))) in
      ap₂ (λ us vs. us ++ replicate (c - b) false ++ vs) front back ∙
      (append_assoc (take a ks ++ replicate (b - a) false) (replicate (c - b) false) (drop c ks) ∙ two_gone a b c ab bc)

-- where all of the later part is gone, the earlier one can't go at once
pub earlier_refused : (P : List Atom → Type 0) (atoms : List Atom) (old mid : List Bool) (first middle end : ℕ) → first ≤ middle → middle ≤ end → end ≤ length old →
    IsRefusedAtOnce P atoms old first end → mid ≡ without_run old middle end → IsRefusedAtOnce P atoms mid first middle
earlier_refused P atoms old mid first middle end fm me there refused mid_is accepted =
    refused
    (subst (λ ks. P (kept_atoms atoms ks)) (ap (λ ks. without_run ks first middle) mid_is ∙ without_earlier old first middle end fm me there) accepted)

-- the same of equal lists
pub refused_moved : (g h : Problem) (taken others : List Step) (atoms some : List Atom) (ks : List Bool) (first end : ℕ) → g ≡ h → taken ≡ others → atoms ≡ some →
    IsRefusedAtOnce (IsAccepted g taken) atoms ks first end → IsRefusedAtOnce (IsAccepted h others) some ks first end
refused_moved g h taken others atoms some ks first end p q r refused =
    subst (λ x. IsRefusedAtOnce (IsAccepted x others) some ks first end) p
    (subst (λ x. IsRefusedAtOnce (IsAccepted g x) some ks first end) q (subst (λ x. IsRefusedAtOnce (IsAccepted g taken) x ks first end) r refused))

-- ---- what stays without a run

none_some : (xs : List Atom) → AreSomeOf [] xs
none_some [] = AreSomeOf.none
none_some (x ∷ xs) = AreSomeOf.without (none_some xs)

some_without : (atoms : List Atom) (ks : List Bool) (first end : ℕ) → first ≤ end → end ≤ length atoms → length ks ≡ length atoms →
    AreSomeOf (kept_atoms atoms (without_run ks first end)) (kept_atoms atoms ks)
some_without atoms ks first end from there flags =
    let before : List Atom = kept_atoms (take first atoms) (take first ks) in
    let behind : List Atom = kept_atoms (drop end atoms) (drop end ks) in
    let run : List Atom = kept_atoms (between first end atoms) (between first end ks) in
    let wide : length (between first end ks) ≡ end - first =
    length-take-le (end - first) (drop first ks) (omega (arith, from, there, flags, length-drop first ks)) in
    let less : kept_atoms atoms (without_run ks first end) ≡ before ++ behind = kept_without atoms ks first end from there flags (without_run ks first end) refl in
    let all : kept_atoms atoms ks ≡ before ++ run ++ behind =
    ap (kept_atoms atoms) (split_three ks first end from (omega (arith, there, flags))) ∙ kept_with atoms ks first end from there flags (between first end ks) wide in
    let front : AreSomeOf before (before ++ run) = subst (λ xs. AreSomeOf xs (before ++ run)) (append-nil before) (some_append (some_of_all before) (none_some run)) in
    subst (λ xs. AreSomeOf xs (kept_atoms atoms ks)) (sym less) (subst (AreSomeOf (before ++ behind)) (sym all) (some_append front (some_of_all behind)))

-- ---- the groups but the last

module _ (g : Problem) (steps : List Step) (atoms : List Atom) (can : All CanBeAssumed atoms) where
  -- what is accepted without a run is accepted with it
  with_run : (ks : List Bool) (first end : ℕ) → first ≤ end → end ≤ length atoms → length ks ≡ length atoms →
      IsAccepted g steps (kept_atoms atoms (without_run ks first end)) → IsAccepted g steps (kept_atoms atoms ks)
  with_run ks first end from there flags accepted =
      acceptance_grows g steps (kept_atoms atoms (without_run ks first end)) (kept_atoms atoms ks) (kept_fit CanBeAssumed atoms ks can)
      (some_without atoms ks first end from there flags) accepted

  pub groups_at_once : (old new : List Bool) (ends : Ends) → AreUp ends atoms → length old ≡ length atoms →
      IsAccepted g steps (kept_atoms atoms (without_run old 0 ends.apart)) → new ≡ without_run old 0 ends.apart → DropsGroups (IsAccepted g steps) atoms old new ends
  groups_at_once old new ends up flags accepted new_is =
      let first : List Bool = without_run old 0 ends.fixed in
      let second : List Bool = without_run first ends.fixed ends.less in
      let third : List Bool = without_run second ends.less ends.apart in
      let fixed_there : ends.fixed ≤ length atoms = omega (arith, up.less, up.apart, up.all) in
      let less_there : ends.less ≤ length atoms = omega (arith, up.apart, up.all) in
      let first_flags : length first ≡ length atoms = without_long old 0 ends.fixed (omega arith) (omega (arith, fixed_there, flags)) ∙ flags in
      let second_flags : length second ≡ length atoms =
      without_long first ends.fixed ends.less up.less (omega (arith, less_there, first_flags)) ∙ first_flags in
      let second_is : second ≡ without_run old 0 ends.less =
      without_later old 0 ends.fixed ends.less (omega arith) up.less (omega (arith, less_there, flags)) in
      let third_is : third ≡ without_run old 0 ends.apart =
      ap (λ ks. without_run ks ends.less ends.apart) second_is ∙
      without_later old 0 ends.less ends.apart (omega arith) up.apart (omega (arith, up.all, flags)) in
      let at_third : IsAccepted g steps (kept_atoms atoms third) = subst (λ ks. IsAccepted g steps (kept_atoms atoms ks)) (sym third_is) accepted in
      let at_second : IsAccepted g steps (kept_atoms atoms second) = with_run second ends.less ends.apart up.apart up.all second_flags at_third in
      let at_first : IsAccepted g steps (kept_atoms atoms first) = with_run first ends.fixed ends.less up.less less_there first_flags at_second in
      let new_third : new ≡ third = new_is ∙ sym third_is in
      record {
        first = first;
        second = second;
        first_flags = first_flags;
        second_flags = second_flags;
        flags = ap length new_third ∙ (without_long second ends.less ends.apart up.apart (omega (arith, up.all, second_flags)) ∙ second_flags);
        fixed = run_told g steps atoms old 0 ends.fixed first (omega arith) fixed_there flags refl can each_dropped at_first;
        less = run_told g steps atoms first ends.fixed ends.less second up.less less_there first_flags refl can each_dropped at_second;
        apart =
            run_told g steps atoms second ends.less ends.apart new up.apart up.all second_flags new_third can each_dropped
            (subst (λ ks. IsAccepted g steps (kept_atoms atoms ks)) (sym new_third) at_third);
      }
