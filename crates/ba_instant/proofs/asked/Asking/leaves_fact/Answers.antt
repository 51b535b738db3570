use Rattle.std.proofs.Common.{◌≡◌, ℕ, arith}
use Rattle.std.proofs.lemmas.Option.{slice_get_within}
use Rattle.std.specs.Prelude.{Some, slice_get}
use Rattle.ba_instant.proofs.PlaceLemmas.{found_at, places_more}
use Rattle.ba_instant.proofs.asked.Asking.leaves_fact.Goals as goal
use Rattle.ba_instant.specs.QuietKeys.{LeavesFact, LeavesRow}

pub loop-place-init : goal.loop-place-init
loop-place-init c = λ q below at. absurd (let no : ⊥ = omega (arith, below) in no)

pub loop-place-preserved : goal.loop-place-preserved
loop-place-preserved c =
    places_more
    (λ (q : ℕ). slice_get c.as_slice-from.result.now q ≡ Some c.args.fact.now.table → LeavesRow c.args.self.now.known.now c.args.self.now.moves.now c.args.self.now.asked.now c.args.self.now.part.now q c.args.fact.now.terms)
    c.loop-place.place c.loop-place.invariant
    (λ at. c.leaves_place.ensures c.if-not-leaves_place.false (found_at c.as_slice-from.result.now c.loop-place.place c.args.fact.now.table 0 at))

pub returns : goal.returns
unfolding LeavesFact
returns c =
    λ _ place at.
    let here : slice_get c.as_slice-from.result.now place ≡ Some c.args.fact.now.table = cc (c.as_slice-from.ensures) in
    let inside = slice_get_within c.as_slice-from.result.now place c.args.fact.now.table here in
    c.loop-place.invariant place (omega (arith, inside, c.loop-place-test.false)) here
