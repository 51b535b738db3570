-- Operands, atoms, tables and queries are read exactly where they are said.
use Rattle.std.proofs.Common.{◌≡◌, ◌∙◌, ℕ, ℤ, List, [], ◌∷◌, Bool, true, false, cond, Option, Some, None, Result, Ok, Err, refl, sym, ap, subst, codes}
use Rattle.std.specs.Prelude.{option_and_then}
use Rattle.std.specs.List.{AllZip, position}
use Rattle.std.specs.Str.{bytes_eq}
use Rattle.std.proofs.lemmas.Bool.{and_parts}
use Rattle.std.proofs.lemmas.Slice.Eq.{bytes_eq-Decides}
use Rattle.serde_json.specs.Data.{Data, Members, null, boolean, number, string, array, object, no_members, member}
use Rattle.serde_json.specs.Find.{as_i64, as_object}
use Rattle.ba_model.specs.Fit.{IsQuery, kinds_of}
use Rattle.ba_model.specs.Readings.{◌>>=◌, each, widened}
use Rattle.ba_model.specs.declared.policy.Parameter.{Parameter}
use Rattle.ba_model.specs.declared.query.Atom.{Atom}
use Rattle.ba_model.specs.declared.query.Op.{Op}
use Rattle.ba_model.specs.declared.query.Operand.{Operand}
use Rattle.ba_model.specs.declared.query.Operand.TheVariants.{Col, Val, Param, Var}
use Rattle.ba_model.specs.declared.query.Part.{Part}
use Rattle.ba_model.specs.declared.query.Query.{Query}
use Rattle.ba_model.specs.declared.schema.Kind.{Kind}
use Rattle.ba_model.specs.declared.schema.Schema.{Schema}
use Rattle.ba_model.specs.declared.schema.Table.{Table}
use Rattle.ba_model.specs.declared.value.Value.TheVariants as value
use Rattle.ba_script.specs.Script.{given_from}
use Rattle.ba_sql_query.proofs.PlaceLemmas.{first_complete, first_sound}
use Rattle.ba_sql_query.specs.Reads.{HasParam, HasTable}
use Rattle.ba_sql_query.specs.declared.fault.ReadQueryFault.TheVariants.{UnknownParam}
use Rattle.ba_proof.proofs.EntrySaid.{object_is}
use Rattle.ba_proof.proofs.FitLemmas.{bound, wide_enough}
use Rattle.ba_proof.proofs.FitLemmas.{good as proof_good}
use Rattle.ba_proof.proofs.PutLemmas.{same_text}
use Rattle.ba_proof.proofs.SaidLemmas.{as_list_is, as_list_said}
use Rattle.ba_proof.proofs.SaidLemmas.{number_is as proof_number_is, number_said as proof_number_said}
use Rattle.ba_proof.proofs.StepLemmas.{op_reads}
use Rattle.ba_proof.proofs.TermSaid.{numbered_place, op_is, place_numbered}
use Rattle.ba_proof.specs.Says.{SaysEach, SaysShort}
use Rattle.ba_proof.specs.Shapes.{as_list, as_short, short}
use Rattle.ba_proof.specs.Shapes.{or_bad as proof_or_bad}
use Rattle.ba_proof.specs.Steps.{op_of}
use Rattle.ba_proof.specs.Written.{list_json, op_name}
use Rattle.ba_proof.specs.declared.fault.ProofFault.{ProofFault}
use Rattle.ba_proof.specs.declared.fault.ProofField.TheVariants as proof_field
use Rattle.ba_store.proofs.FitLemmas.{is_checked}
use Rattle.ba_store.proofs.LoadLemmas.{ok_same, widened_ok}
use Rattle.ba_store.proofs.LoadLemmas.{query_is as query_fits}
use Rattle.ba_store.specs.Fits.{is_query}
use Rattle.ba_store.specs.Reading.{atom_at, atom_of, atom_with, checked, column_at, list_operand, marked_at, op_at, operand_at, operand_given, param_at, part_at, part_form, part_of, part_with, parts_at, parts_form, query_at, query_with, table_at, table_named}
use Rattle.ba_store.specs.Says.{SaysAtom, SaysOperand, SaysPart, SaysQuery, SaysTable}
use Rattle.ba_store.specs.Shapes.{list_at, number_at, or_bad, text_at}
use Rattle.ba_store.specs.declared.fault.StoreField.{StoreField}

-- ---- something

-- either way of a test
pub choose : {A F : Type 0} (G : Type 0) (b : Bool) (x y : Result A F) (r : A) → cond b x y ≡ Ok r → (b ≡ true → x ≡ Ok r → G) → (y ≡ Ok r → G) → G
choose G true x y r e f g = f refl e
choose G false x y r e f g = g e

pub good : {A : Type 0} (f : StoreField) (o : Option A) (x : A) → or_bad f o ≡ Ok x → o ≡ Some x
good f None x e = cc e
good f (Some y) x e = ap Some (cc e)

pub each_zip : {A B F : Type 0} (g : A → Result B F) (R : A → B → Type 0) → ((x : A) (y : B) → g x ≡ Ok y → R x y) → (xs : List A) (ys : List B) → each g xs ≡ Ok ys → AllZip R xs ys
each_zip g R h [] ys e = subst (AllZip R []) (ok_same [] ys e) tt
each_zip g R h (x ∷ xs) ys e =
    let first = bound (g x) (λ y. (each g xs >>= λ zs. Ok (y ∷ zs))) ys e in
    let rest = bound (each g xs) (λ zs. Ok (first.0 ∷ zs)) ys first.2 in
    subst (AllZip R (x ∷ xs)) (ok_same (first.0 ∷ rest.0) ys rest.2) (h x first.0 first.1, each_zip g R h xs rest.0 rest.1)

pub zip_each : {A B F : Type 0} (g : A → Result B F) (R : A → B → Type 0) → ((x : A) (y : B) → R x y → g x ≡ Ok y) → (xs : List A) (ys : List B) → AllZip R xs ys → each g xs ≡ Ok ys
zip_each g R h [] [] z = refl
zip_each g R h [] (y ∷ ys) z = absurd z
zip_each g R h (x ∷ xs) [] z = absurd z
zip_each g R h (x ∷ xs) (y ∷ ys) z = rw (h x y z.0, zip_each g R h xs ys z.1) refl

-- ---- lists, texts and numbers

pub list_is : (f : StoreField) (d : Data) (ds : List Data) → list_at f d ≡ Ok ds → d ≡ list_json ds
list_is f d ds e = as_list_is d ds (good f (as_list d) ds e)

pub list_said : (f : StoreField) (ds : List Data) → list_at f (list_json ds) ≡ Ok ds
list_said f ds = ap (or_bad f) (as_list_said ds)

pub text_is : (f : StoreField) (d : Data) (s : List ℕ) → text_at f d ≡ Ok s → d ≡ string s
text_is f null s e = cc e
text_is f (boolean b) s e = cc e
text_is f (number n) s e = cc e
text_is f (string t) s e = let same : t ≡ s = cc e in ap string same
text_is f (array ds) s e = cc e
text_is f (object ms) s e = cc e

number_is : (f : StoreField) (d : Data) (n : ℕ) → number_at f d ≡ Ok n → SaysShort d n
number_is f d n e = proof_number_is d n (ap (proof_or_bad proof_field.Steps) (good f (as_short d) n e))

number_said : (f : StoreField) (d : Data) (n : ℕ) → SaysShort d n → number_at f d ≡ Ok n
number_said f d n h = ap (or_bad f) (proof_good proof_field.Steps (as_short d) n (proof_number_said d n h))

module _ {X : Type 0} (f : StoreField) (read : Data → Result X StoreField) (Says : Data → X → Type 0) where
  pub each_is : ((d : Data) (x : X) → read d ≡ Ok x → Says d x) → (d : Data) (xs : List X) → (list_at f d >>= each read) ≡ Ok xs → SaysEach Says d xs
  each_is one d xs e =
      let items = bound (list_at f d) (each read) xs e in
      record { ds = items.0; is = list_is f d items.0 items.1; said = each_zip read Says one items.0 xs items.2 }

  pub each_said : ((d : Data) (x : X) → Says d x → read d ≡ Ok x) → (d : Data) (xs : List X) → SaysEach Says d xs → (list_at f d >>= each read) ≡ Ok xs
  each_said one d xs h =
      ap (λ x. list_at f x >>= each read) h.is
      ∙ ap (λ r. r >>= each read) (list_said f h.ds)
      ∙ zip_each read Says one h.ds xs h.said

-- ---- operands

module _ (f : StoreField) (params : List Parameter) where
  abbrev place_at : List ℕ → Option ℕ
  place_at name = position (λ (parameter : Parameter). bytes_eq parameter.name name) params

  named_is : (d e : Data) (x : Operand) → d ≡ list_json (string (codes "p") ∷ e ∷ []) → (text_at f e >>= param_at f params) ≡ Ok x → SaysOperand params d x
  unfolding param_at
  named_is d e x is h =
      let name = bound (text_at f e) (param_at f params) x h in
      let a = bound (or_bad f (option_and_then short (place_at name.0))) (λ n. Ok (Param n)) x name.2 in
      subst (SaysOperand params d) (ok_same (Param a.0) x a.2) (
        name.0,
        is ∙ ap (λ y. list_json (string (codes "p") ∷ y ∷ [])) (text_is f e name.0 name.1),
        first_sound (λ (parameter : Parameter). bytes_eq parameter.name name.0) (λ (parameter : Parameter). parameter.name ≡ name.0) (λ (parameter : Parameter). bytes_eq-Decides parameter.name name.0) UnknownParam params a.0
            (place_numbered (place_at name.0) a.0 (good f (option_and_then short (place_at name.0)) a.0 a.1)),
      )

  param_said : (name : List ℕ) (n : ℕ) → HasParam params name n → param_at f params name ≡ Ok (Param n)
  unfolding param_at
  param_said name n h =
      ap (λ o. or_bad f o >>= λ m. Ok (Param m))
      (numbered_place (place_at name) n (first_complete (λ (parameter : Parameter). bytes_eq parameter.name name) (λ (parameter : Parameter). parameter.name ≡ name) (λ (parameter : Parameter). bytes_eq-Decides parameter.name name) UnknownParam params n h))

  var_is : (d e : Data) (x : Operand) → d ≡ list_json (string (codes "v") ∷ e ∷ []) → (number_at f e >>= λ n. Ok (Var n)) ≡ Ok x → SaysOperand params d x
  var_is d e x is h =
      let n = bound (number_at f e) (λ n. Ok (Var n)) x h in
      subst (SaysOperand params d) (ok_same (Var n.0) x n.2) (e, is, number_is f e n.0 n.1)

  marked_is : (d e : Data) (mark : List ℕ) (x : Operand) → d ≡ list_json (string mark ∷ e ∷ []) → marked_at f params mark e ≡ Ok x → SaysOperand params d x
  unfolding marked_at
  marked_is d e mark x is h =
      choose (SaysOperand params d x) (bytes_eq mark (codes "p")) _ _ x h
      (λ b k. named_is d e x (is ∙ ap (λ m. list_json (string m ∷ e ∷ [])) (same_text mark (codes "p") b)) k)
      (λ k. choose (SaysOperand params d x) (bytes_eq mark (codes "v")) _ _ x k
      (λ b l. var_is d e x (is ∙ ap (λ m. list_json (string m ∷ e ∷ [])) (same_text mark (codes "v") b)) l)
      (λ l. cc l))

  place_is : (d a b : Data) (x : Operand) → d ≡ list_json (string (codes "c") ∷ a ∷ b ∷ []) → (number_at f a >>= λ place. (number_at f b >>= λ column. Ok (Col place column))) ≡ Ok x
      → SaysOperand params d x
  place_is d a b x is h =
      let place = bound (number_at f a) (λ p. (number_at f b >>= λ c. Ok (Col p c))) x h in
      let column = bound (number_at f b) (λ c. Ok (Col place.0 c)) x place.2 in
      subst (SaysOperand params d) (ok_same (Col place.0 column.0) x column.2) (a, b, is, number_is f a place.0 place.1, number_is f b column.0 column.1)

  column_is : (d a b : Data) (mark : List ℕ) (x : Operand) → d ≡ list_json (string mark ∷ a ∷ b ∷ []) → column_at f mark a b ≡ Ok x → SaysOperand params d x
  unfolding column_at
  column_is d a b mark x is h =
      choose (SaysOperand params d x) (bytes_eq mark (codes "c")) _ _ x h
      (λ t k. place_is d a b x (is ∙ ap (λ m. list_json (string m ∷ a ∷ b ∷ [])) (same_text mark (codes "c") t)) k)
      (λ k. cc k)

  items_operand : (d : Data) (ds : List Data) (x : Operand) → d ≡ list_json ds → list_operand f params ds ≡ Ok x → SaysOperand params d x
  items_operand d [] x is e = cc e
  items_operand d (mark ∷ []) x is e = cc e
  items_operand d (mark ∷ a ∷ []) x is e =
      let it = bound (text_at f mark) (λ s. marked_at f params s a) x e in
      marked_is d a it.0 x (is ∙ ap (λ m. list_json (m ∷ a ∷ [])) (text_is f mark it.0 it.1)) it.2
  items_operand d (mark ∷ a ∷ b ∷ []) x is e =
      let it = bound (text_at f mark) (λ s. column_at f s a b) x e in
      column_is d a b it.0 x (is ∙ ap (λ m. list_json (m ∷ a ∷ b ∷ [])) (text_is f mark it.0 it.1)) it.2
  items_operand d (mark ∷ a ∷ b ∷ other ∷ more) x is e = cc e

  pub operand_is : (d : Data) (x : Operand) → operand_at f params d ≡ Ok x → SaysOperand params d x
  unfolding operand_at
  operand_is null x e = subst (SaysOperand params null) (ok_same (Val value.Null) x e) refl
  operand_is (boolean b) x e = cc e
  operand_is (number num) x e = by (as_i64 num) refl e
    where
      by : (o : Option ℤ) → as_i64 num ≡ o → operand_given f params (given_from None o) (number num) ≡ Ok x → SaysOperand params (number num) x
      by (Some n) is h = subst (SaysOperand params (number num)) (ok_same (Val (value.Int n)) x h) (num, refl, is)
      by None is h = cc h
  operand_is (string s) x e = subst (SaysOperand params (string s)) (ok_same (Val (value.Text s)) x e) refl
  operand_is (array ds) x e =
      let items = bound (list_at f (array ds)) (list_operand f params) x e in
      items_operand (array ds) items.0 x (list_is f (array ds) items.0 items.1) items.2
  operand_is (object ms) x e = cc e

  pub operand_said : (d : Data) (x : Operand) → SaysOperand params d x → operand_at f params d ≡ Ok x
  unfolding operand_at marked_at column_at
  operand_said d (Col place column) h = ap (operand_at f params) h.2 ∙ rw (number_said f h.0 place h.3, number_said f h.1 column h.4) refl
  operand_said d (Val value.Null) h = ap (operand_at f params) h
  operand_said d (Val (value.Int n)) h = ap (operand_at f params) h.1 ∙ ap (λ o. operand_given f params (given_from None o) (number h.0)) h.2
  operand_said d (Val (value.Text s)) h = ap (operand_at f params) h
  operand_said d (Param n) h = ap (operand_at f params) h.1 ∙ param_said h.0 n h.2
  operand_said d (Var n) h = ap (operand_at f params) h.1 ∙ rw (number_said f h.0 n h.2) refl

  -- ---- atoms

  -- the sides behind a name
  abbrev sides : Data → Data → Op → Result Atom StoreField
  sides b c op = operand_at f params b >>= λ left. (operand_at f params c >>= λ right. Ok (atom_with op left right))

  items_atom : (d : Data) (ds : List Data) (atom : Atom) → d ≡ list_json ds → atom_of f params ds ≡ Ok atom → SaysAtom params d atom
  items_atom d [] atom is e = cc e
  items_atom d (a ∷ []) atom is e = cc e
  items_atom d (a ∷ b ∷ []) atom is e = cc e
  items_atom d (a ∷ b ∷ c ∷ []) atom is e =
      let op = bound (text_at f a >>= op_at f) (sides b c) atom e in
      let name = bound (text_at f a) (op_at f) op.0 op.1 in
      let left = bound (operand_at f params b) (λ l. (operand_at f params c >>= λ r. Ok (atom_with op.0 l r))) atom op.2 in
      let right = bound (operand_at f params c) (λ r. Ok (atom_with op.0 left.0 r)) atom left.2 in
      subst (SaysAtom params d) (ok_same (atom_with op.0 left.0 right.0) atom right.2)
      (record {
        a = b;
        b = c;
        is =
            is
            ∙ ap (λ x. list_json (x ∷ b ∷ c ∷ []))
            (text_is f a name.0 name.1 ∙ ap string (op_is params 0 name.0 op.0 (widened_ok (λ (fault : ProofFault). f) (op_of name.0) op.0 name.2)));
        left = operand_is b left.0 left.1;
        right = operand_is c right.0 right.1;
      })
  items_atom d (a ∷ b ∷ c ∷ x ∷ more) atom is e = cc e

  pub atom_is : (d : Data) (atom : Atom) → atom_at f params d ≡ Ok atom → SaysAtom params d atom
  unfolding atom_at
  atom_is d atom e =
      let items = bound (list_at f d) (atom_of f params) atom e in
      items_atom d items.0 atom (list_is f d items.0 items.1) items.2

  atom_made : (a b : Data) (op : Op) (left right : Operand) → SaysOperand params a left → SaysOperand params b right
      → atom_at f params (list_json (string (op_name op) ∷ a ∷ b ∷ [])) ≡ Ok (atom_with op left right)
  unfolding atom_at
  atom_made a b op left right h k = rw (op_reads op, operand_said a left h, operand_said b right k) refl

  pub atom_said : (d : Data) (atom : Atom) → SaysAtom params d atom → atom_at f params d ≡ Ok atom
  atom_said d atom h = ap (atom_at f params) h.is ∙ atom_made h.a h.b atom.op atom.left atom.right h.left h.right

-- ---- queries

module _ (f : StoreField) (schema : Schema) (params : List Parameter) where
  abbrev place_of : List ℕ → Option ℕ
  place_of name = position (λ (table : Table). bytes_eq table.name name) schema.tables

  table_is : (d : Data) (t : ℕ) → table_at f schema d ≡ Ok t → SaysTable schema d t
  unfolding table_at
  table_is d t e =
      let name = bound (text_at f d) (table_named f schema) t e in (
        name.0,
        text_is f d name.0 name.1,
        first_sound (λ (table : Table). bytes_eq table.name name.0) (λ (table : Table). table.name ≡ name.0) (λ (table : Table). bytes_eq-Decides table.name name.0) UnknownParam schema.tables t
            (place_numbered (place_of name.0) t (good f (option_and_then short (place_of name.0)) t name.2)),
      )

  table_said : (d : Data) (t : ℕ) → SaysTable schema d t → table_at f schema d ≡ Ok t
  unfolding table_at
  table_said d t h =
      ap (table_at f schema) h.1
      ∙ ap (or_bad f)
      (numbered_place (place_of h.0) t (first_complete (λ (table : Table). bytes_eq table.name h.0) (λ (table : Table). table.name ≡ h.0) (λ (table : Table). bytes_eq-Decides table.name h.0) UnknownParam schema.tables t h.2))

  part_says : (d a b c : Data) (part : Part) → d ≡ object (member (codes "conds") a (member (codes "from") b (member (codes "head") c no_members))) → part_of f schema params a b c ≡ Ok part
      → SaysPart schema params d part
  unfolding part_of
  part_says d a b c part is e =
      let conds = bound (list_at f a >>= each (atom_at f params)) _ part e in
      let from = bound (list_at f b >>= each (table_at f schema)) _ part conds.2 in
      let head = bound (list_at f c >>= each (operand_at f params)) (λ head. Ok (part_with from.0 conds.0 head)) part from.2 in
      subst (SaysPart schema params d) (ok_same (part_with from.0 conds.0 head.0) part head.2)
      (record {
        a = a;
        b = b;
        c = c;
        is = is;
        conds = each_is f (atom_at f params) (SaysAtom params) (atom_is f params) a conds.0 conds.1;
        from = each_is f (table_at f schema) (SaysTable schema) table_is b from.0 from.1;
        head = each_is f (operand_at f params) (SaysOperand params) (operand_is f params) c head.0 head.1;
      })

  form_is : (d : Data) (ms : Members) (part : Part) → d ≡ object ms → part_form f schema params ms ≡ Ok part → SaysPart schema params d part
  form_is d no_members part is e = cc e
  form_is d (member k a no_members) part is e = cc e
  form_is d (member k a (member l b no_members)) part is e = cc e
  form_is d (member k a (member l b (member m c no_members))) part is e =
      let two = wide_enough _ (part_of f schema params a b c) f part e in
      let first = and_parts _ _ two.0 in
      let rest = and_parts _ _ first.1 in
      part_says d a b c part
      (is
      ∙ ap (λ x. object (member x a (member l b (member m c no_members)))) (same_text k (codes "conds") first.0)
      ∙ ap (λ x. object (member (codes "conds") a (member x b (member m c no_members)))) (same_text l (codes "from") rest.0)
      ∙ ap (λ x. object (member (codes "conds") a (member (codes "from") b (member x c no_members)))) (same_text m (codes "head") rest.1))
      two.1
  form_is d (member k a (member l b (member m c (member n x more)))) part is e = cc e

  part_is : (d : Data) (part : Part) → part_at f schema params d ≡ Ok part → SaysPart schema params d part
  part_is d part e =
      let ms = bound (or_bad f (as_object d)) (part_form f schema params) part e in
      form_is d ms.0 part (object_is d ms.0 (good f (as_object d) ms.0 ms.1)) ms.2

  part_made : (a b c : Data) (part : Part) → (list_at f a >>= each (atom_at f params)) ≡ Ok part.conds → (list_at f b >>= each (table_at f schema)) ≡ Ok part.from
      → (list_at f c >>= each (operand_at f params)) ≡ Ok part.head → part_of f schema params a b c ≡ Ok part
  unfolding part_of
  part_made a b c part x y z = rw (x, y, z) refl

  part_said : (d : Data) (part : Part) → SaysPart schema params d part → part_at f schema params d ≡ Ok part
  part_said d part h =
      ap (part_at f schema params) h.is
      ∙ part_made h.a h.b h.c part (each_said f (atom_at f params) (SaysAtom params) (atom_said f params) h.a part.conds h.conds)
      (each_said f (table_at f schema) (SaysTable schema) table_said h.b part.from h.from)
      (each_said f (operand_at f params) (SaysOperand params) (operand_said f params) h.c part.head h.head)

  -- the parts of an object
  record HasParts (d : Data) (parts : List Part) : Type 0 where
    a : Data
    is : d ≡ object (member (codes "parts") a no_members)
    parts_are : SaysEach (SaysPart schema params) a parts

  parts_form_is : (d : Data) (ms : Members) (parts : List Part) → d ≡ object ms → parts_form f schema params ms ≡ Ok parts → HasParts d parts
  parts_form_is d no_members parts is e = cc e
  parts_form_is d (member k a no_members) parts is e =
      let two = wide_enough (bytes_eq k (codes "parts")) (list_at f a >>= each (part_at f schema params)) f parts e in
      record {
        a = a;
        is = is ∙ ap (λ x. object (member x a no_members)) (same_text k (codes "parts") two.0);
        parts_are = each_is f (part_at f schema params) (SaysPart schema params) part_is a parts two.1;
      }
  parts_form_is d (member k a (member l b more)) parts is e = cc e

  module _ (vars : List Kind) where
    pub query_is : (d : Data) (q : Query) → query_at f schema params vars d ≡ Ok q → SaysQuery schema params vars d q
    unfolding query_at checked
    query_is d q e =
        let parts = bound (parts_at f schema params d) (checked f schema params vars) q e in
        let ms = bound (or_bad f (as_object d)) (parts_form f schema params) parts.0 parts.1 in
        let has = parts_form_is d ms.0 parts.0 (object_is d ms.0 (good f (as_object d) ms.0 ms.1)) ms.2 in
        let kept = wide_enough (is_query schema (kinds_of params) vars parts.0) (Ok (query_with parts.0)) f q parts.2 in
        record {
          a = has.a;
          is = has.is;
          parts = subst (λ (it : Query). SaysEach (SaysPart schema params) has.a it.parts) (ok_same (query_with parts.0) q kept.1) has.parts_are;
          fits = query_fits f schema params vars d q e;
        }

    pub query_said : (d : Data) (q : Query) → SaysQuery schema params vars d q → query_at f schema params vars d ≡ Ok q
    unfolding query_at
    query_said d q h =
        ap (query_at f schema params vars) h.is
        ∙ ap (λ r. r >>= checked f schema params vars) (each_said f (part_at f schema params) (SaysPart schema params) part_said h.a q.parts h.parts)
        ∙ is_checked f schema params vars q.parts q h.fits refl
