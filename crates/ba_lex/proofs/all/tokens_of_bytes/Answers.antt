use Rattle.std.proofs.Common.{◌≡◌, ◌≤◌, refl, ap, arith, subst, ℕ, List, length, Result, Err}
use Rattle.std.specs.Str.{IsUtf8, is_utf8}
use Rattle.std.proofs.lemmas.Bool.{false_from_ne_true, le-ltb}
use Rattle.std.proofs.lemmas.Str.{IsUtf8-from_is_utf8, is_utf8-from_IsUtf8}
use Rattle.ba_lex.specs.declared.token.LexFault.{LexFault}
use Rattle.ba_lex.specs.declared.token.LexFault.TheVariants.{BadByte}
use Rattle.ba_lex.specs.declared.token.Token.{Token}
use Rattle.std.specs.Result.{IfOk}
use Rattle.ba_lex.proofs.SpanLemmas.{read_spans}
use Rattle.ba_lex.specs.Reading.{AreSpans}
use Rattle.ba_model.specs.Readings.{Gives}
use Rattle.ba_lex.specs.Tokens.{file_tokens_of, tokens_from}
use Rattle.ba_lex.proofs.all.tokens_of_bytes.Goals as goal

read : (limit : ℕ) (bytes text : List ℕ) → length bytes ≤ limit → IsUtf8 bytes → text ≡ bytes → tokens_from text 0 0 ≡ file_tokens_of limit bytes
unfolding file_tokens_of
read limit bytes text le u e = rw (le-ltb limit (length bytes) le, is_utf8-from_IsUtf8 bytes u) (ap (λ (b : List ℕ). tokens_from b 0 0) e)

not_read : (limit : ℕ) (bytes : List ℕ) → length bytes ≤ limit → (IsUtf8 bytes → ⊥) → file_tokens_of limit bytes ≡ Err BadByte
unfolding file_tokens_of
not_read limit bytes le u = rw (le-ltb limit (length bytes) le, false_from_ne_true (is_utf8 bytes) (λ t. u (IsUtf8-from_is_utf8 bytes t))) refl

pub returns-in-Ok-clause-exact : goal.returns-in-Ok-clause-exact
returns-in-Ok-clause-exact c =
    subst (λ (read : Result (List Token) LexFault). Gives c.tokens_from.result read)
    (read c.args.limit c.args.bytes.now c.in-Ok.text.now (omega (arith, c.if-limit-bytes.false)) c.in-Ok.ensures.cases.1 c.in-Ok.ensures.cases.0) c.tokens_from.ensures

pub returns-in-Err-clause-exact : goal.returns-in-Err-clause-exact
returns-in-Err-clause-exact c = not_read c.args.limit c.args.bytes.now (omega (arith, c.if-limit-bytes.false)) c.in-Err.ensures.cases.0

pub returns-in-Ok-clause-spans : goal.returns-in-Ok-clause-spans
returns-in-Ok-clause-spans c =
    subst (λ (b : List ℕ). IfOk c.tokens_from.result (AreSpans b 0)) c.in-Ok.ensures.cases.0 (read_spans c.in-Ok.text.now c.tokens_from.result c.tokens_from.ensures)
