use Rattle.ba_facts.proofs.walk.Walk.has_other.Goals as goal

pub returns-in-Some : goal.returns-in-Some
returns-in-Some c = λ e rest h.
    let none = rw c.as_slice-in-Some.ensures at (rw c.as_slice.ensures at (c.is_no_front.ensures e)) in
    none rest (rw c.in-Some.is at h)
