-- A covered query is strongly compliant.
use Rattle.std.proofs.Common.{◌≡◌, ℕ, zero, suc, ◌⊎◌, inl, inr, List, [], ◌∷◌, map, refl, sym, ap, ◌∙◌, subst}
use Rattle.std.proofs.lemmas.List.Elements.{All-contains, All-weaker, All-nil, All-cons}
use Rattle.std.specs.List.{All, AllZip, Contains}
use Rattle.std.specs.Prelude.{Option, Some, slice_get, option_and_then}
use Rattle.ba_comply.proofs.ComplyLemmas.{All-from_contains}
use Rattle.ba_comply.specs.Comply.{AnswerWithin, Within}
use Rattle.ba_model.proofs.ElementLemmas.{Contains-cases, Contains-nil, Contains-head, Contains-later}
use Rattle.ba_model.proofs.FitLemmas.{has_value}
use Rattle.ba_model.specs.Conform.{Conforms}
use Rattle.ba_model.specs.Fit.{PolicyFits, IsQuery, ContextFits, PartFits, QueryFits, kind_of, kinds_of}
use Rattle.ba_model.specs.Meaning.{Compares, Gives, Holds, InPart, IsChoice, value_of}
use Rattle.ba_model.specs.declared.policy.Context.{Context}
use Rattle.ba_model.specs.declared.policy.Policy.{Policy}
use Rattle.ba_model.specs.declared.query.Atom.{Atom}
use Rattle.ba_model.specs.declared.query.Op.{Op}
use Rattle.ba_model.specs.declared.query.Op.TheVariants.{Eq}
use Rattle.ba_model.specs.declared.query.Operand.{Operand}
use Rattle.ba_model.specs.declared.query.Operand.TheVariants.{Col, Val, Param, Var}
use Rattle.ba_model.specs.declared.query.Part.{Part}
use Rattle.ba_model.specs.declared.schema.Kind.{Kind}
use Rattle.ba_model.specs.declared.schema.Schema.{Schema}
use Rattle.ba_model.specs.declared.value.RowSet.{RowSet}
use Rattle.ba_model.specs.declared.value.Value.{Value}
use Rattle.ba_direct.specs.Cover.{CoverCovers, CoveredIsStrong, CoversBy, CoversPart, HasImage, IsImage, IsKnown, Maps, MapsAtom, PartCovered, SameConstant, constant_of}
use Rattle.ba_direct.specs.declared.covers.PartCover.{PartCover}
use Rattle.ba_direct.proofs.PlaceLemmas.{Placed, Placed-there, Placed-back, choice_length, choice_moved, rows_at, tables_back, way_back}

constant_value : (c : Context) (rows : List (List Value)) (x : Operand) (v : Value) → constant_of c x ≡ Some v → value_of c rows x ≡ Some v
constant_value c rows (Col p k) v e = cc
constant_value c rows (Val w) v e = e
constant_value c rows (Param n) v e = e
constant_value c rows (Var n) v e = cc

same_constant : (c : Context) (rows others : List (List Value)) (x y : Operand) → SameConstant c x y → value_of c others x ≡ value_of c rows y
same_constant c rows others x y h = constant_value c others x h.value h.left_is ∙ sym (constant_value c rows y h.value h.right_is)

-- an operand of the view has the value of the operand to which it maps
maps_value : (c : Context) (to : List ℕ) (rows others : List (List Value)) → Placed to rows others → (x y : Operand) → Maps c to x y → value_of c others x ≡ value_of c rows y
maps_value c to rows others placed (Col place column) (Col paired other) h =
    ap (option_and_then (λ row. slice_get row column)) (placed.row place paired h.0) ∙ ap (λ k. value_of c rows (Col paired k)) (sym h.1)
maps_value c to rows others placed x y h = same_constant c rows others x y h

-- an equation is true either way round
turned : (op : Op) (a b : Value) → op ≡ Eq → Compares op a b → Compares op b a
turned op a b e h =
    let k : Compares Eq a b = subst (λ o. Compares o a b) e h in
    let back : Compares Eq b a = (λ null. k.0 (k.1 ∙ null), sym k.1) in
    subst (λ o. Compares o b a) (sym e) back

-- the query's atom is true where the view's is
to_query : (c : Context) (to : List ℕ) (rows others : List (List Value)) → Placed to rows others → (a b : Atom) → MapsAtom c to a b → Holds c others a → Holds c rows b
to_query c to rows others placed a b (inl (op, left, right)) h =
    record {
      left = h.left;
      right = h.right;
      left_is = sym (maps_value c to rows others placed a.left b.left left) ∙ h.left_is;
      right_is = sym (maps_value c to rows others placed a.right b.right right) ∙ h.right_is;
      compared = subst (λ o. Compares o h.left h.right) op h.compared;
    }
to_query c to rows others placed a b (inr (is, too, left, right)) h =
    record {
      left = h.right;
      right = h.left;
      left_is = sym (maps_value c to rows others placed a.right b.left right) ∙ h.right_is;
      right_is = sym (maps_value c to rows others placed a.left b.right left) ∙ h.left_is;
      compared = subst (λ o. Compares o h.right h.left) (is ∙ sym too) (turned a.op h.left h.right is h.compared);
    }

-- and the other way round
to_view : (c : Context) (to : List ℕ) (rows others : List (List Value)) → Placed to rows others → (a b : Atom) → MapsAtom c to a b → Holds c rows b → Holds c others a
to_view c to rows others placed a b (inl (op, left, right)) h =
    record {
      left = h.left;
      right = h.right;
      left_is = maps_value c to rows others placed a.left b.left left ∙ h.left_is;
      right_is = maps_value c to rows others placed a.right b.right right ∙ h.right_is;
      compared = subst (λ o. Compares o h.left h.right) (sym op) h.compared;
    }
to_view c to rows others placed a b (inr (is, too, left, right)) h =
    record {
      left = h.right;
      right = h.left;
      left_is = maps_value c to rows others placed a.left b.right left ∙ h.right_is;
      right_is = maps_value c to rows others placed a.right b.left right ∙ h.left_is;
      compared = subst (λ o. Compares o h.right h.left) (too ∙ sym is) (turned b.op h.left h.right too h.compared);
    }

-- lists of operands with the same values have the same value at each
map_at : (f g : Operand → Option Value) (xs : List Operand) → map f xs ≡ map g xs → (x : Operand) → Contains xs x → f x ≡ g x
map_at f g [] e x h = absurd (Contains-nil x h)
map_at f g (y ∷ ys) e x h =
    elim (Contains-cases y ys x h) [
      | inl same ↦ subst (λ q. f q ≡ g q) same (let k : f y ≡ g y = cc in k)
      | inr later ↦ map_at f g ys (let k : map f ys ≡ map g ys = cc in k) x later
    ]

map_from : (f g : Operand → Option Value) (xs : List Operand) → ((x : Operand) → Contains xs x → f x ≡ g x) → map f xs ≡ map g xs
map_from f g [] h = refl
map_from f g (x ∷ xs) h =
    let first : f x ≡ g x = h x (Contains-head x xs) in
    let later : map f xs ≡ map g xs = map_from f g xs (λ y k. h y (Contains-later x xs y k)) in
    cc (first, later)

-- a constant, or a column that the view outputs, has one value over rows from which the view gives one row
known_value : (c : Context) (to : List ℕ) (view : Part) (rows others rows' others' : List (List Value)) → Placed to rows others → Placed to rows' others' → map (value_of c others) view.head ≡ map (value_of c others') view.head → (x : Operand) → IsKnown c to view x → value_of c rows x ≡ value_of c rows' x
known_value c to view rows others rows' others' placed placed' same (Col paired column) (place, there, is) =
    sym (maps_value c to rows others placed (Col place column) (Col paired column) (is, refl))
    ∙ (map_at (value_of c others) (value_of c others') view.head same (Col place column) there
    ∙ maps_value c to rows' others' placed' (Col place column) (Col paired column) (is, refl))
known_value c to view rows others rows' others' placed placed' same (Val v) h = refl
known_value c to view rows others rows' others' placed placed' same (Param n) h = refl
known_value c to view rows others rows' others' placed placed' same (Var n) h = refl

-- operands of known kinds have values
head_values : (s : Schema) (params : List Kind) (c : Context) (d : RowSet) (from : List ℕ) (rows : List (List Value)) → Conforms s d → ContextFits params c → IsChoice d from rows → (xs : List Operand) (kinds : List Kind) → map (kind_of s params [] from) xs ≡ map Some kinds → (r : List Value) × (map (value_of c rows) xs ≡ map Some r)
head_values s params c d from rows conforms fits chosen [] kinds e = ([], refl)
head_values s params c d from rows conforms fits chosen (x ∷ xs) [] e = cc
head_values s params c d from rows conforms fits chosen (x ∷ xs) (k ∷ ks) e =
    let first : kind_of s params [] from x ≡ Some k = cc in
    let later : map (kind_of s params [] from) xs ≡ map Some ks = cc in
    let v = has_value s params c d from rows conforms fits chosen x k first in
    let vs = head_values s params c d from rows conforms fits chosen xs ks later in
    (v.0 ∷ vs.0, cc (v.1, vs.1))

-- an atom of the query that is an image, or is of known operands, is true of the second rows too
cond_kept : (c : Context) (to : List ℕ) (view : Part) (rows rows' others' : List (List Value)) → Placed to rows' others' → All (Holds c others') view.conds → ((x : Operand) → IsKnown c to view x → value_of c rows x ≡ value_of c rows' x) → (b : Atom) → Holds c rows b → IsImage c to view b ⊎ (IsKnown c to view b.left × IsKnown c to view b.right) → Holds c rows' b
cond_kept c to view rows rows' others' placed conds kept b h (inl (a, there, same)) =
    to_query c to rows' others' placed a b same (All-contains (Holds c others') view.conds a conds there)
cond_kept c to view rows rows' others' placed conds kept b h (inr (left, right)) =
    record {
      left = h.left;
      right = h.right;
      left_is = sym (kept b.left left) ∙ h.left_is;
      right_is = sym (kept b.right right) ∙ h.right_is;
      compared = h.compared;
    }

module _ (s : Schema) (params kinds : List Kind) (c : Context) (d e : RowSet) (view q : Part) (to : List ℕ) where
  -- the view gives a row where the query's part does
  view_gives : Conforms s d → ContextFits params c → PartFits s params [] kinds view → CoversBy c view q to → (rows : List (List Value)) → IsChoice d q.from rows → All (Holds c rows) q.conds → (r : List Value) × Gives c (rows_at rows to) view r
  view_gives conforms fits viewed covers rows chosen conds =
      let placed = Placed-there view q to rows covers.pairs (choice_length d q.from rows chosen) in
      let head = head_values s params c d view.from (rows_at rows to) conforms fits (choice_moved d q.from rows chosen to view.from covers.pairs.tables) view.head kinds viewed.head in (
        head.0,
        record {
          conds = All-weaker (HasImage c to q) (Holds c (rows_at rows to))
              (λ a k. to_view c to rows (rows_at rows to) placed a k.0 k.2 (All-contains (Holds c rows) q.conds k.0 conds k.1)) view.conds covers.atoms;
          head = head.1;
        },
      )

  -- what a covered part gives in d it gives in e
  part_within : Conforms s d → ContextFits params c → PartFits s params [] kinds view → CoversBy c view q to → ((r : List Value) → InPart c d view r → InPart c e view r) → (r : List Value) → InPart c d q r → InPart c e q r
  part_within conforms fits viewed covers within r (rows, chosen, gives) =
      let given = view_gives conforms fits viewed covers rows chosen gives.conds in
      let there = within given.0 (rows_at rows to, choice_moved d q.from rows chosen to view.from covers.pairs.tables, given.1) in
      let others' = there.0 in
      let back = way_back view q to covers.pairs in
      let rows' = rows_at others' back.0 in
      let placed = Placed-there view q to rows covers.pairs (choice_length d q.from rows chosen) in
      let placed' = Placed-back view q to back.0 others' covers.pairs back.1 (choice_length e view.from others' there.1) in
      let same : map (value_of c (rows_at rows to)) view.head ≡ map (value_of c others') view.head = given.1.head ∙ sym there.2.head in
      let kept : (x : Operand) → IsKnown c to view x → value_of c rows x ≡ value_of c rows' x = known_value c to view rows (rows_at rows to) rows' others' placed placed' same in (
        rows',
        choice_moved e view.from others' there.1 back.0 q.from (tables_back view q to back.0 covers.pairs back.1),
        record {
          conds = All-from_contains (Holds c rows') q.conds
              (λ b h. cond_kept c to view rows rows' others' placed' there.2.conds kept b (All-contains (Holds c rows) q.conds b gives.conds h) (All-contains (λ b. IsImage c to view b ⊎ (IsKnown c to view b.left × IsKnown c to view b.right)) q.conds b covers.others h));
          head = sym (map_from (value_of c rows) (value_of c rows') q.head (λ x h. kept x (All-contains (IsKnown c to view) q.head x covers.head h))) ∙ gives.head;
        },
      )

Contains-from_slice_get : {X : Type 0} (xs : List X) (n : ℕ) (x : X) → slice_get xs n ≡ Some x → Contains xs x
Contains-from_slice_get [] n x e = cc
Contains-from_slice_get (y ∷ ys) zero x e = subst (λ z. Contains (y ∷ ys) z) (let k : y ≡ x = cc in k) (Contains-head y ys)
Contains-from_slice_get (y ∷ ys) (suc n) x e = Contains-later y ys x (Contains-from_slice_get ys n x e)

only_part : (parts : List Part) (view : Part) → parts ≡ view ∷ [] → (p : Part) → Contains parts p → view ≡ p
only_part parts view e p h =
    elim (Contains-cases view [] p (subst (λ ps. Contains ps p) e h)) [
      | inl same ↦ same
      | inr later ↦ absurd (Contains-nil p later)
    ]

-- what a part that a view covers gives in d it gives in e
part_by_cover : (policy : Policy) (c : Context) (part : Part) (cover : PartCover) → PolicyFits policy → ContextFits (kinds_of policy.params) c → CoversPart policy c part cover → (d e : RowSet) → Conforms policy.schema d → Within policy c d e → (r : List Value) → InPart c d part r → InPart c e part r
part_by_cover policy c part cover fits context covers d e conforms within =
    let view = covers.view in
    let listed : Contains policy.views view = Contains-from_slice_get policy.views cover.view view covers.view_is in
    let fit : QueryFits policy.schema (kinds_of policy.params) [] view.query = (All-contains (λ view. IsQuery policy.schema (kinds_of policy.params) [] view.query) policy.views view fits.views listed).fits in
    let there : Contains view.query.parts covers.part = subst (λ ps. Contains ps covers.part) (sym covers.part_is) (Contains-head covers.part []) in
    let part_fits : PartFits policy.schema (kinds_of policy.params) [] fit.kinds covers.part = All-contains (PartFits policy.schema (kinds_of policy.params) [] fit.kinds) view.query.parts covers.part fit.parts there in
    let rows : AnswerWithin view.query c d e = All-contains (λ view. AnswerWithin view.query c d e) policy.views view within.views listed in
    part_within policy.schema (kinds_of policy.params) fit.kinds c d e covers.part part cover.places conforms context part_fits covers.by
    (λ r h.
    let k = rows.rows r (covers.part, there, h) in
    subst (λ p. InPart c e p r) (sym (only_part view.query.parts covers.part covers.part_is k.0 k.1)) k.2)

pub covered_is_strong : CoveredIsStrong
covered_is_strong policy c trace q fits context covered =
    record {
      within = λ d e conforms conforms' within shown.
          record {
            rows = λ r (part, there, given).
                let k = All-contains (PartCovered policy c) q.parts part covered.parts there in
                (part, there, part_by_cover policy c part k.cover fits context k.covers d e conforms within r given);
          };
    }

All-from_zip : {A B : Type 0} (R : A → B → Type 0) (P : A → Type 0) → ((x : A) (y : B) → R x y → P x) → (xs : List A) (ys : List B) → AllZip R xs ys → All P xs
All-from_zip R P f [] ys h = All-nil P
All-from_zip R P f (x ∷ xs) [] h = absurd h
All-from_zip R P f (x ∷ xs) (y ∷ ys) h = All-cons P x xs (f x y h.0) (All-from_zip R P f xs ys h.1)

pub cover_covers : CoverCovers
cover_covers policy c q cover h =
    record { parts = All-from_zip (CoversPart policy c) (PartCovered policy c) (λ part found k. record { cover = found; covers = k }) q.parts cover.parts h.parts }
