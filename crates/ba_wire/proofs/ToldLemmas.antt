-- What is printed tells the rows.
use Rattle.std.proofs.Common.{◌≡◌, ℤ, pos, negsuc, List, [], ◌∷◌, map, refl, ap, ap₂}
use Rattle.serde_json.specs.Data.{Data, Items, array}
use Rattle.serde_json.specs.Find.{of_integer}
use Rattle.serde_json.specs.View.{items_of}
use Rattle.ba_model.specs.declared.value.Value.{Value}
use Rattle.ba_model.specs.declared.value.Value.TheVariants as value
use Rattle.ba_wire.specs.Printed.{RowsAreTold, row_json, value_json}

integer_told : (n m : ℤ) → of_integer n ≡ of_integer m → n ≡ m
integer_told (pos n) (pos m) e = cc e
integer_told (pos n) (negsuc m) e = cc e
integer_told (negsuc n) (pos m) e = cc e
integer_told (negsuc n) (negsuc m) e = cc e

value_told : (v w : Value) → value_json v ≡ value_json w → v ≡ w
value_told value.Null value.Null e = refl
value_told value.Null (value.Int m) e = cc e
value_told value.Null (value.Text t) e = cc e
value_told (value.Int n) value.Null e = cc e
value_told (value.Int n) (value.Int m) e = ap value.Int (integer_told n m (cc e))
value_told (value.Int n) (value.Text t) e = cc e
value_told (value.Text s) value.Null e = cc e
value_told (value.Text s) (value.Int m) e = cc e
value_told (value.Text s) (value.Text t) e = cc e

-- where a form tells each element, its list tells all
items_told : {X : Type 0} (f : X → Data) → ((x y : X) → f x ≡ f y → x ≡ y) → (xs ys : List X) → items_of (map f xs) ≡ items_of (map f ys) → xs ≡ ys
items_told f told [] [] e = refl
items_told f told [] (y ∷ ys) e = cc e
items_told f told (x ∷ xs) [] e = cc e
items_told f told (x ∷ xs) (y ∷ ys) e = ap₂ (λ z zs. z ∷ zs) (told x y (cc e)) (items_told f told xs ys (cc e))

inside : (ds es : Items) → array ds ≡ array es → ds ≡ es
inside ds es e = cc e

row_told : (xs ys : List Value) → row_json xs ≡ row_json ys → xs ≡ ys
row_told xs ys e = items_told value_json value_told xs ys (inside _ _ e)

pub rows_told : RowsAreTold
rows_told xs ys e = items_told row_json row_told xs ys (inside _ _ e)
