use Rattle.std.proofs.lemmas.Str.Pattern.{split_parts}
use Rattle.std.proofs.Common.{lit<, ◌≡◌, ℕ, List, Option, Some, None, MatchOption, ◌++◌, ◌∷◌, Bor}
use Rattle.ba_send.specs.Texts.{HasNoSlash}
use Rattle.ba_send.proofs.text.split_at_slash.Goals as goal

swapped : (text : List ℕ) (r : Option (Bor (List ℕ) × Bor (List ℕ)))
    → MatchOption r (HasNoSlash text) (λ parts. (text ≡ parts.0.now ++ 92 ∷ parts.1.now) × HasNoSlash parts.0.now)
    → MatchOption r (HasNoSlash text) (λ parts. HasNoSlash parts.0.now × (text ≡ parts.0.now ++ 92 ∷ parts.1.now))
swapped text None h = h
swapped text (Some parts) h = (h.1, h.0)

pub returns : goal.returns
returns c = swapped c.args.text.now c.split_once.result (split_parts 92 c.args.text.now c.split_once.result c.split_once.ensures.cases (lit< tt))
