-- Values whose numbers may be past 64 bits.
use Rattle.std.specs.Prelude.{◌≡◌, Option, Some, None}
use Rattle.ba_model.specs.declared.value.Value.{Value}
use Rattle.ba_model.specs.declared.value.Value.TheVariants.{Null, Int, Text}
use Rattle.ba_refute.specs.declared.wide.Content.{Content}
use Rattle.ba_refute.specs.declared.wide.Content.TheVariants as content

-- the value of a content
abbrev pub plain : Content → Value
plain content.Null = Null
plain (content.Int n) = Int n
plain (content.Text t) = Text t

-- the same, where P holds of it; none, where P doesn't
abbrev pub Narrows : {X : Type 0} → (X → Type 0) → X → Option X → Type 0
Narrows P x None = ¬ (P x)
Narrows P x (Some y) = (y ≡ x) × P x
