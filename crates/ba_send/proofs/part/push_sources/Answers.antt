use Rattle.std.proofs.Common.{string_bytes}
use Rattle.ba_lex.specs.declared.token.Sign.TheVariants.{Comma}
use Rattle.ba_send.specs.Sent.{from_pieces, sign}
use Rattle.ba_send.proofs.GrowLemmas.{grows_sources, no_sources}
use Rattle.ba_send.proofs.part.push_sources.Goals as goal

pub returns-in-empty : goal.returns-in-empty
unfolding from_pieces
returns-in-empty c =
    no_sources c.args.target.now c.args.schema.now c.args.target.now.database (sign Comma) c.args.from.now (string_bytes c.args.out.now) c.in-empty.len_below

pub returns-in_ok-push_next_sources-in-len1-up : goal.returns-in_ok-push_next_sources-in-len1-up
unfolding from_pieces
returns-in_ok-push_next_sources-in-len1-up c =
    grows_sources c.args.target.now c.args.schema.now c.args.target.now.database (sign Comma) c.args.from.now _ _ _ _ c.in-len1-up.len_at_least
    c.in_ok-push_source-in-len1-up.ensures c.in_ok-push_next_sources-in-len1-up.ensures
