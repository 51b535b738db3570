use Rattle.std.proofs.Common.{◌≡◌, ◌∙◌, ap, arith, drop, length}
use Rattle.std.proofs.lemmas.List.{nil_from_length, take_rest}
use Rattle.ba_sql_ddl.specs.Scan.{behind_word, scan}
use Rattle.ba_sql_ddl.proofs.ScanLemmas.{scan_continues, scan_ends, scan_over, scan_stops}
use Rattle.ba_sql_ddl.proofs.scan.first_unsupported.Goals as goal

pub returns-in_default : goal.returns-in_default
returns-in_default c =
    let below = c.in_default.len_below in
    scan_ends (length c.args.words.now) c.loop.counter c.loop.rest.now (scan c.args.words.now) c.loop.invariant (nil_from_length c.loop.rest.now (omega (arith, below)))

pub returns-then-is_some : goal.returns-then-is_some
returns-then-is_some c =
    scan_stops (λ k. k.now) c.unsupported_of-found.result (length c.args.words.now) c.loop.counter c.word-item.result c.loop.rest.now (scan c.args.words.now) c.loop.invariant c.loop-test.true c.in-len1-up.len_at_least c.word-item.is c.unsupported_of-found.ensures c.if-is_some.ensures

pub loop-preserved : goal.loop-preserved
loop-preserved c =
    let next : c.behind_word-rest.result.now ≡ behind_word c.word-item.result (drop 1 c.loop.rest.now) = c.behind_word-rest.ensures ∙ ap (behind_word c.word-item.result) (take_rest c.loop.rest.now 1) in
    scan_continues (λ k. k.now) c.unsupported_of-found.result (length c.args.words.now) c.loop.counter c.word-item.result c.loop.rest.now c.behind_word-rest.result.now (scan c.args.words.now) c.loop.invariant c.loop-test.true c.in-len1-up.len_at_least c.word-item.is c.unsupported_of-found.ensures
    c.if-is_some.ensures next

pub returns : goal.returns
returns c = scan_over (length c.args.words.now) c.loop.counter c.loop.rest.now (scan c.args.words.now) c.loop.invariant c.loop-test.false
