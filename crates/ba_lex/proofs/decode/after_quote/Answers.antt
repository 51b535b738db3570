use Rattle.std.proofs.Common.{◌≡◌, ◌≢◌, ℕ, Bool, true, false, eqb, List, [], ◌∷◌, None, lit<, refl, ap}
use Rattle.std.proofs.lemmas.Bool.{eqb-true}
use Rattle.std.proofs.lemmas.Str.Pattern.{strip_prefix_char}
use Rattle.ba_lex.specs.Tokens.{after_quote}
use Rattle.ba_lex.proofs.decode.after_quote.Goals as goal

none : (text : List ℕ) → ((rest : List ℕ) → text ≢ 39 ∷ rest) → text ≡ after_quote text
none [] h = refl
none (b ∷ bs) h = at (eqb b 39) refl
  where
    at : (t : Bool) → eqb b 39 ≡ t → b ∷ bs ≡ after_quote (b ∷ bs)
    at true e = absurd (h bs (ap (λ (n : ℕ). n ∷ bs) (eqb-true b 39 e)))
    at false e = rw e refl

pub returns-in-None : goal.returns-in-None
returns-in-None c = none c.args.text.now (strip_prefix_char 39 c.args.text.now None c.in-None.ensures.cases (lit< tt))
