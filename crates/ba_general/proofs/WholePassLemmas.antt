-- The pass over the whole full condition, group by group.
use Rattle.std.proofs.Common.{Bor, ◌≡◌, ℕ, ◌+◌, ◌-◌, ◌≤◌, Bool, true, List, ◌++◌, length, take, drop, replicate, refl, sym, ap, ◌∙◌, subst, arith}
use Rattle.std.proofs.lemmas.List.{drop-drop, length-append}
use Rattle.std.proofs.lemmas.List.Elements.{All-drop, All-replicate, All-take}
use Rattle.std.specs.Prelude.{IfOk, Result, Ok, Err}
use Rattle.std.specs.declared.alloc.AllocError.{AllocError}
use Rattle.ba_kernel.specs.SearchStates.{Proof}
use Rattle.ba_kernel.specs.declared.problem.Problem.{Problem}
use Rattle.ba_kernel.specs.declared.step.Step.{Step}
use Rattle.ba_model.specs.declared.query.Atom.{Atom}
use Rattle.ba_general.proofs.FullFitsLemmas.{full_fits, pattern_operands}
use Rattle.ba_general.proofs.OneFullLemmas.{full_one}
use Rattle.ba_general.proofs.PassLemmas.{four_runs}
use Rattle.ba_general.specs.Conditions.{AreUp, AtomsFit, DropsGroups, IsAcceptedFully, IsCondition, IsFullList, IsFullPass, PatternFits}
use Rattle.ba_general.specs.Dropping.{AllKept, DropsRun, IsAccepted, between, kept_atoms}
use Rattle.ba_general.specs.Patterns.{assuming}
use Rattle.ba_general.specs.declared.dropping.Ends.{Ends}
use Rattle.ba_general.specs.declared.dropping.Pass.{Pass}
use Rattle.ba_general.specs.declared.pattern.Pattern.{Pattern}
use Rattle.ba_general.specs.declared.pattern.Valued.{Valued}

-- ---- what a run asks

pub all_fit : (it : Pattern) (atoms : List Atom) (ends : Ends) → PatternFits it → IsFullList it.operands atoms ends → AtomsFit it.problem atoms
all_fit it atoms ends fits h = full_fits it.problem it.operands h.fixed h.less h.apart h.equal atoms (pattern_operands it fits) h.full h.atoms_are

-- what is behind a number is behind a greater one
pub behind : (xs ys : List Bool) (m n : ℕ) → m ≤ n → drop m xs ≡ drop m ys → drop n xs ≡ drop n ys
behind xs ys m n up e =
    let at : n ≡ m + (n - m) = omega arith in
    ap (λ k. drop k xs) at ∙ (sym (drop-drop (n - m) m xs) ∙ (ap (drop (n - m)) e ∙ (drop-drop (n - m) m ys ∙ ap (λ k. drop k ys) (sym at))))

-- behind what was gone through all is kept
pub still_kept : (old new : List Bool) (count first end : ℕ) → old ≡ replicate count true → drop first new ≡ drop first old → AllKept (between first end new)
still_kept old new count first end all same =
    subst (λ ks. AllKept (take (end - first) ks)) (sym (same ∙ ap (drop first) all))
    (All-take (λ k. k ≡ true) (end - first) (drop first (replicate count true)) (All-drop (λ k. k ≡ true) first (replicate count true) (All-replicate (λ k. k ≡ true) count true refl)))

pub ends_up : (operands : List Valued) (atoms : List Atom) (ends : Ends) → IsFullList operands atoms ends → AreUp ends atoms
ends_up operands atoms ends h =
    let two : length (h.fixed ++ h.less) ≡ length h.fixed + length h.less = length-append h.fixed h.less in
    let three : length (h.fixed ++ h.less ++ h.apart) ≡ length (h.fixed ++ h.less) + length h.apart = length-append (h.fixed ++ h.less) h.apart in
    let four : length atoms ≡ length (h.fixed ++ h.less ++ h.apart) + length h.equal = ap length h.atoms_are ∙ length-append (h.fixed ++ h.less ++ h.apart) h.equal in
    record {
      less = omega (arith, h.fixed_end, h.less_end, two);
      apart = omega (arith, h.less_end, h.apart_end, three);
      all = omega (arith, h.apart_end, four);
    }

-- ---- what the runs leave

-- what a call that drops a run tells
pub record DroppedRun (old new : Pass) (first end : ℕ) : Type 0 where
  pub run : DropsRun (IsAccepted old.pattern.now.problem old.steps.now) old.atoms.items old.kept.items new.kept.items first end
  pub flags : length new.kept.items ≡ length new.atoms.items
  pub atoms : new.atoms ≡ old.atoms
  pub pattern : new.pattern ≡ old.pattern
  pub steps : new.steps ≡ old.steps

-- the same pattern, steps and atoms
record IsOne (pattern : Bor Pattern) (steps : Bor (List Step)) (atoms : List Atom) (it : Pass) : Type 0 where
  pattern_is : it.pattern ≡ pattern
  steps_are : it.steps ≡ steps
  atoms_are : it.atoms.items ≡ atoms

module _ (pattern : Bor Pattern) (steps : Bor (List Step)) (atoms : List Atom) where
  still_one : (old new : Pass) (first end : ℕ) → DroppedRun old new first end → IsOne pattern steps atoms old → IsOne pattern steps atoms new
  still_one old new first end h is =
      record { pattern_is = h.pattern ∙ is.pattern_is; steps_are = h.steps ∙ is.steps_are; atoms_are = ap (λ xs. xs.items) h.atoms ∙ is.atoms_are }

  its_run : (old new : Pass) (first end : ℕ) → DroppedRun old new first end → IsOne pattern steps atoms old →
      DropsRun (IsAccepted pattern.now.problem steps.now) atoms old.kept.items new.kept.items first end
  its_run old new first end h is =
      subst (λ xs. DropsRun (IsAccepted pattern.now.problem steps.now) xs old.kept.items new.kept.items first end) is.atoms_are
      (subst (λ taken. DropsRun (IsAccepted pattern.now.problem taken.now) old.atoms.items old.kept.items new.kept.items first end) is.steps_are
      (subst (λ it. DropsRun (IsAccepted it.now.problem old.steps.now) old.atoms.items old.kept.items new.kept.items first end) is.pattern_is h.run))

  its_flags : (old new : Pass) (first end : ℕ) → DroppedRun old new first end → IsOne pattern steps atoms old → length new.kept.items ≡ length atoms
  its_flags old new first end h is = h.flags ∙ (ap (λ xs. length xs.items) h.atoms ∙ ap length is.atoms_are)

-- what the call that goes through the groups but the last tells
pub record DroppedGroups (old new : Pass) (ends : Ends) : Type 0 where
  pub groups : DropsGroups (IsAccepted old.pattern.now.problem old.steps.now) old.atoms.items old.kept.items new.kept.items ends
  pub atoms : new.atoms ≡ old.atoms
  pub pattern : new.pattern ≡ old.pattern
  pub steps : new.steps ≡ old.steps

-- these groups, one after another
pub groups_dropped : (pattern : Bor Pattern) (steps : Bor (List Step)) (p0 p1 p2 p3 : Pass) (ends : Ends) → p0.pattern ≡ pattern → p0.steps ≡ steps →
    DroppedRun p0 p1 0 ends.fixed → DroppedRun p1 p2 ends.fixed ends.less → DroppedRun p2 p3 ends.less ends.apart →
    DropsGroups (IsAccepted pattern.now.problem steps.now) p0.atoms.items p0.kept.items p3.kept.items ends
groups_dropped pattern steps p0 p1 p2 p3 ends pattern_is steps_are h1 h2 h3 =
    let atoms = p0.atoms.items in
    let o0 : IsOne pattern steps p0.atoms.items p0 = record { pattern_is = pattern_is; steps_are = steps_are; atoms_are = refl } in
    let o1 = still_one pattern steps atoms p0 p1 0 ends.fixed h1 o0 in
    let o2 = still_one pattern steps atoms p1 p2 ends.fixed ends.less h2 o1 in
    record {
      first = p1.kept.items;
      second = p2.kept.items;
      first_flags = its_flags pattern steps atoms p0 p1 0 ends.fixed h1 o0;
      second_flags = its_flags pattern steps atoms p1 p2 ends.fixed ends.less h2 o1;
      flags = its_flags pattern steps atoms p2 p3 ends.less ends.apart h3 o2;
      fixed = its_run pattern steps atoms p0 p1 0 ends.fixed h1 o0;
      less = its_run pattern steps atoms p1 p2 ends.fixed ends.less h2 o1;
      apart = its_run pattern steps atoms p2 p3 ends.less ends.apart h3 o2;
    }

-- the groups, one after another
pub pass_condition : (pattern : Bor Pattern) (steps : Bor (List Step)) (p0 p1 p2 : Pass) (count : ℕ) →
    IsFullPass pattern.now.operands p0.atoms.items p0.kept.items p0.ends → p0.pattern ≡ pattern → p0.steps ≡ steps →
    IsAcceptedFully pattern.now.problem pattern.now.operands steps.now → count ≡ length p0.atoms.items → DroppedGroups p0 p1 p0.ends →
    DroppedRun p1 p2 p0.ends.apart count → IsCondition pattern.now.problem pattern.now.operands steps.now (kept_atoms p2.atoms.items p2.kept.items)
pass_condition pattern steps p0 p1 p2 count pass pattern_is steps_are accepted all h1 h2 =
    let g = pattern.now.problem in
    let operands = pattern.now.operands in
    let atoms = p0.atoms.items in
    let full = pass.full in
    let o1 : IsOne pattern steps p0.atoms.items p1 =
    record { pattern_is = h1.pattern ∙ pattern_is; steps_are = h1.steps ∙ steps_are; atoms_are = ap (λ xs. xs.items) h1.atoms } in
    let o2 = still_one pattern steps atoms p1 p2 p0.ends.apart count h2 o1 in
    let groups : DropsGroups (IsAccepted pattern.now.problem steps.now) p0.atoms.items p0.kept.items p1.kept.items p0.ends =
    subst (λ taken. DropsGroups (IsAccepted pattern.now.problem taken.now) p0.atoms.items p0.kept.items p1.kept.items p0.ends) steps_are
    (subst (λ it. DropsGroups (IsAccepted it.now.problem p0.steps.now) p0.atoms.items p0.kept.items p1.kept.items p0.ends) pattern_is h1.groups) in
    let whole : IsAccepted pattern.now.problem steps.now (pass.full.fixed ++ pass.full.less ++ pass.full.apart ++ pass.full.equal) =
    subst (IsAccepted pattern.now.problem steps.now)
    (full_one operands accepted.fixed accepted.less accepted.apart accepted.equal full.fixed full.less full.apart full.equal accepted.full full.full) accepted.accepted in
    subst (λ xs. IsCondition pattern.now.problem pattern.now.operands steps.now (kept_atoms xs p2.kept.items)) (sym o2.atoms_are)
    (four_runs g operands steps.now full.fixed full.less full.apart full.equal atoms p0.kept.items groups.first groups.second p1.kept.items p2.kept.items
    p0.ends.fixed p0.ends.less p0.ends.apart full.full whole full.atoms_are pass.kept_are full.fixed_end full.less_end full.apart_end
    groups.first_flags groups.second_flags groups.flags (its_flags pattern steps atoms p1 p2 p0.ends.apart count h2 o1) groups.fixed groups.less groups.apart
    (subst (DropsRun (IsAccepted pattern.now.problem steps.now) p0.atoms.items p1.kept.items p2.kept.items p0.ends.apart) all
    (its_run pattern steps atoms p1 p2 p0.ends.apart count h2 o1)))

pub condition_left : (result : Result Proof AllocError) (g : Problem) (operands : List Valued) (taken : List Step) (left : List Atom) → IsCondition g operands taken left →
    IfOk result (λ it. it ≡ record { problem = assuming g left; steps = taken }) → IfOk result (λ it. IsCondition g operands taken it.problem.assumed)
condition_left (Ok it) g operands taken left h e = subst (IsCondition g operands taken) (sym (ap (λ (x : Proof). x.problem.assumed) e)) h
condition_left (Err failed) g operands taken left h e = tt

pub proof_left : (result : Result Proof AllocError) (g : Problem) (taken : List Step) (left : List Atom) →
    IfOk result (λ it. it ≡ record { problem = assuming g left; steps = taken }) →
    IfOk result (λ it. it ≡ record { problem = assuming g it.problem.assumed; steps = taken })
proof_left (Ok it) g taken left e =
    e ∙ ap (λ (xs : List Atom). record { problem = assuming g xs; steps = taken }) (sym (ap (λ (x : Proof). x.problem.assumed) e))
proof_left (Err failed) g taken left e = tt

-- the same of the pattern and steps that a pass has
pub proof_of_pattern : (result : Result Proof AllocError) (g h : Problem) (taken others : List Step) (left : List Atom) → g ≡ h → taken ≡ others →
    IfOk result (λ it. it ≡ record { problem = assuming g left; steps = taken }) → IfOk result (λ it. it ≡ record { problem = assuming h left; steps = others })
proof_of_pattern (Ok it) g h taken others left p q e =
    subst (λ x. it ≡ record { problem = assuming x left; steps = others }) p (subst (λ x. it ≡ record { problem = assuming g left; steps = x }) q e)
proof_of_pattern (Err failed) g h taken others left p q e = tt
