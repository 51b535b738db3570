use Rattle.std.proofs.Common.{◌∙◌}
use Rattle.ba_lex.specs.Word.{is_word}
use Rattle.ba_grammar.specs.Items.{is_among}
use Rattle.ba_grammar.proofs.KeywordLemmas.{any_map}
use Rattle.ba_grammar.proofs.word.is_among.Goals as goal

pub returns : goal.returns
unfolding is_among
returns c = c.is_any.ensures ∙ any_map (λ keyword. is_word c.args.word.now keyword) (λ keyword. keyword.now) c.args.keywords.now
