-- What the search for a cover says at each step.
use Rattle.std.specs.Prelude.{◌≡◌, ℕ, List, [], ◌∷◌, ◌++◌, Option, Some, None}
use Rattle.std.specs.Cmp.Lexicographic.{slice_cmp}
use Rattle.std.specs.Ordering.{nat_cmp}
use Rattle.std.specs.declared.cmp.Ordering.TheVariants.{Less}
use Rattle.ba_model.specs.declared.policy.Context.{Context}
use Rattle.ba_model.specs.declared.policy.Policy.{Policy}
use Rattle.ba_model.specs.declared.query.Part.{Part}
use Rattle.ba_direct.specs.Cover.{CoversBy, CoversPart}
use Rattle.ba_direct.specs.declared.covers.PartCover.{PartCover}

-- the element of a list that has one
abbrev pub only_of : {X : Type 0} → List X → Option X
only_of [] = None
only_of (x ∷ []) = Some x
only_of (x ∷ y ∷ xs) = None

-- no pairing that begins so is a cover
pub record NoneFrom (c : Context) (view q : Part) (begun : List ℕ) : Type 0 where
  pub none : (more : List ℕ) → CoversBy c view q (begun ++ more) → ⊥

-- the pairing begins so and is a cover, and no pairing that begins so and comes before it is one
pub record IsFirstFrom (c : Context) (view q : Part) (begun to : List ℕ) : Type 0 where
  pub covers : CoversBy c view q to
  pub more : List ℕ
  pub begins : to ≡ begun ++ more
  pub first : (other : List ℕ) → slice_cmp nat_cmp (begun ++ other) to ≡ Less → CoversBy c view q (begun ++ other) → ⊥

-- the view covers the part by no pairing
pub record NoneBy (policy : Policy) (c : Context) (q : Part) (view : ℕ) : Type 0 where
  pub none : (other : PartCover) → other.view ≡ view → CoversPart policy c q other → ⊥

-- the view's first cover of the part
pub record IsFirstBy (policy : Policy) (c : Context) (q : Part) (view : ℕ) (cover : PartCover) : Type 0 where
  pub view_is : cover.view ≡ view
  pub covers : CoversPart policy c q cover
  pub first : (other : PartCover) → other.view ≡ cover.view → slice_cmp nat_cmp other.places cover.places ≡ Less → CoversPart policy c q other → ⊥
