-- A guess: what is accepted with the atoms that it keeps is accepted with more.
use Rattle.std.proofs.Common.{◌≡◌, suc, Bool, true, false, List, [], ◌∷◌, length, refl, ap, ◌∙◌, subst, arith}
use Rattle.std.proofs.lemmas.Bool.{false≢true}
use Rattle.std.specs.Prelude.{IfSome, Option, Some}
use Rattle.ba_kernel.specs.declared.problem.Problem.{Problem}
use Rattle.ba_kernel.specs.declared.step.Step.{Step}
use Rattle.ba_model.specs.declared.query.Atom.{Atom}
use Rattle.ba_general.proofs.AcceptedLemmas.{acceptance_grows}
use Rattle.ba_general.proofs.FullFitsLemmas.{kept_fit}
use Rattle.ba_general.proofs.FullLemmas.{atoms_can}
use Rattle.ba_general.specs.Conditions.{AtomsFit}
use Rattle.ba_general.specs.Dropping.{AreAmong, AreSomeOf, CanBeAssumed, IsAccepted, IsGuess, IsProofBy, kept_atoms}
use Rattle.ba_general.specs.Patterns.{assuming}
use Rattle.ba_general.specs.declared.dropping.Guess.{Guess}

among_rest : (k l : Bool) (some all : List Bool) → AreAmong (k ∷ some) (l ∷ all) → AreAmong some all
among_rest k l some all h = record { each = λ i below here. h.each (suc i) (omega arith) here }

pub among_some : (atoms : List Atom) (some all : List Bool) → length some ≡ length atoms → length all ≡ length atoms → AreAmong some all →
    AreSomeOf (kept_atoms atoms some) (kept_atoms atoms all)
among_some [] some all e f h = AreSomeOf.none
among_some (atom ∷ atoms) [] all e f h = absurd (omega arith)
among_some (atom ∷ atoms) (k ∷ some) [] e f h = absurd (omega arith)
among_some (atom ∷ atoms) (true ∷ some) (true ∷ all) e f h =
    AreSomeOf.with (among_some atoms some all (omega arith) (omega arith) (among_rest true true some all h))
among_some (atom ∷ atoms) (true ∷ some) (false ∷ all) e f h = absurd (false≢true (h.each 0 (omega arith) refl))
among_some (atom ∷ atoms) (false ∷ some) (true ∷ all) e f h =
    AreSomeOf.without (among_some atoms some all (omega arith) (omega arith) (among_rest false true some all h))
among_some (atom ∷ atoms) (false ∷ some) (false ∷ all) e f h =
    among_some atoms some all (omega arith) (omega arith) (among_rest false false some all h)

pub guess_accepted : (g : Problem) (taken : List Step) (atoms : List Atom) (kept : List Bool) (guess : Option Guess) (it : Guess) → guess ≡ Some it →
    length kept ≡ length atoms → AtomsFit g atoms → IfSome guess (IsGuess g taken atoms) → AreAmong it.kept.items kept → IsAccepted g taken (kept_atoms atoms kept)
guess_accepted g taken atoms kept guess it e flags fit h among =
    let is : IsGuess g taken atoms it = subst (λ x. IfSome x (IsGuess g taken atoms)) e h in
    acceptance_grows g taken (kept_atoms atoms it.kept.items) (kept_atoms atoms kept) (kept_fit CanBeAssumed atoms kept (atoms_can g atoms fit))
    (among_some atoms it.kept.items kept is.flags flags among) is.accepted

-- the same of equal lists
pub guess_moved : (g h : Problem) (taken others : List Step) (atoms some : List Atom) (guess : Option Guess) → g ≡ h → taken ≡ others → atoms ≡ some →
    IfSome guess (IsGuess g taken atoms) → IfSome guess (IsGuess h others some)
guess_moved g h taken others atoms some guess p q r held =
    subst (λ x. IfSome guess (IsGuess x others some)) p
    (subst (λ x. IfSome guess (IsGuess g x some)) q (subst (λ x. IfSome guess (IsGuess g taken x)) r held))

pub guess_made : (g : Problem) (taken : List Step) (atoms : List Atom) (it : Guess) → length it.kept.items ≡ length atoms →
    IsProofBy (assuming g (kept_atoms atoms it.kept.items)) taken (Some it.proof) → IsGuess g taken atoms it
guess_made g taken atoms it flags by = record { flags = flags; accepted = by.0; is = by.1 }

-- the guess's own proof, where just what it keeps is kept
pub guess_proof : (g : Problem) (taken : List Step) (atoms : List Atom) (kept : List Bool) (guess : Option Guess) (it : Guess) → guess ≡ Some it → it.kept.items ≡ kept →
    IfSome guess (IsGuess g taken atoms) → it.proof ≡ record { problem = assuming g (kept_atoms atoms kept); steps = taken }
guess_proof g taken atoms kept guess it e same h =
    let is : IsGuess g taken atoms it = subst (λ x. IfSome x (IsGuess g taken atoms)) e h in
    is.is ∙ ap (λ (ks : List Bool). record { problem = assuming g (kept_atoms atoms ks); steps = taken }) same

pub accepted_moved : (g h : Problem) (taken others : List Step) (atoms some : List Atom) (ks ls : List Bool) → g ≡ h → taken ≡ others → atoms ≡ some → ks ≡ ls →
    IsAccepted g taken (kept_atoms atoms ks) → IsAccepted h others (kept_atoms some ls)
accepted_moved g h taken others atoms some ks ls p q r k accepted =
    subst (λ x. IsAccepted x others (kept_atoms some ls)) p
    (subst (λ x. IsAccepted g x (kept_atoms some ls)) q
    (subst (λ x. IsAccepted g taken (kept_atoms x ls)) r (subst (λ x. IsAccepted g taken (kept_atoms atoms x)) k accepted)))
