use Rattle.std.proofs.Common.{◌≡◌, ◌∙◌, sym, refl, Bool, true, false, not}
use Rattle.ba_tables.proofs.RecordLemmas.{read_none, read_one}
use Rattle.ba_tables.proofs.lines.Lines.next.Goals as goal

was_found : (b : Bool) → not b ≡ false → b ≡ true
was_found true e = refl
was_found false e = cc e

pub invariant_of-self-2 : goal.invariant_of-self-2
invariant_of-self-2 c h =
    let reading = c.self.invariant c.if-self.false in
    let found = was_found c.in-Ok.found h in
    (read_one c.self.inside.reader c.read_byte_record.new.self _ reading (rw found at (c.in-Ok.ensures.reads reading.trims reading.ready)) (c.in-Ok.ensures.ready reading.trims)).reading

pub returns-clause-read : goal.returns-clause-read
returns-clause-read c found =
    let reading = c.self.invariant c.if-self.false in
    let one = read_one c.self.inside.reader c.read_byte_record.new.self _ reading (rw found at (c.in-Ok.ensures.reads reading.trims reading.ready)) (c.in-Ok.ensures.ready reading.trims) in
    sym c.self.view_is ∙ rw (c.if-self.false, found) one.left

pub returns-clause-ended : goal.returns-clause-ended
returns-clause-ended c found =
    let reading = c.self.invariant c.if-self.false in
    let none = read_none c.self.inside.reader c.read_byte_record.new.self _ reading (rw found at (c.in-Ok.ensures.reads reading.trims reading.ready)) in
    sym c.self.view_is ∙ rw c.if-self.false none
