-- What place by place becomes another is the other as a whole.
use Rattle.std.proofs.Common.{◌≡◌, ◌∙◌, Bool, false, List, [], ◌∷◌, map, sym, ap, ap₂, subst}
use Rattle.std.specs.List.{AllZip}
use Rattle.std.specs.Prelude.{◌↔◌, ℕ, IsTrue, Option, Some, slice_get}
use Rattle.ba_comply.specs.declared.trace.TraceEntry.{TraceEntry}
use Rattle.ba_facts.specs.Fits.{Instance}
use Rattle.ba_kernel.specs.Problems.{atom_at, fixed_value, operand_at, part_at, query_at}
use Rattle.ba_kernel.specs.declared.problem.ProblemEntry.{ProblemEntry}
use Rattle.ba_match.specs.Tested.{Gives, GivesSome, StandsIn}
use Rattle.ba_model.specs.declared.query.Atom.{Atom}
use Rattle.ba_model.specs.declared.query.Operand.{Operand}
use Rattle.ba_model.specs.declared.query.Part.{Part}
use Rattle.ba_model.specs.declared.query.Query.{Query}
use Rattle.ba_model.specs.declared.value.Value.{Value}

module _ {A B : Type 0} (f : A → B) where
  pub map_of : (xs : List A) (ys : List B) → AllZip (Gives f) xs ys → map f xs ≡ ys
  map_of [] [] h = cc
  map_of [] (y ∷ ys) h = absurd h
  map_of (x ∷ xs) [] h = absurd h
  map_of (x ∷ xs) (y ∷ ys) h = ap₂ (λ a rest. a ∷ rest) h.0 (map_of xs ys h.1)

  pub zip_of : (xs : List A) (ys : List B) → map f xs ≡ ys → AllZip (Gives f) xs ys
  zip_of [] [] e = tt
  zip_of [] (y ∷ ys) e = absurd (cc)
  zip_of (x ∷ xs) [] e = absurd (cc)
  zip_of (x ∷ xs) (y ∷ ys) e = (cc, zip_of xs ys (cc))

module _ {A B : Type 0} (f : A → Option B) where
  some_of : (xs : List A) (ys : List B) → AllZip (GivesSome f) xs ys → map f xs ≡ map Some ys
  some_of [] [] h = cc
  some_of [] (y ∷ ys) h = absurd h
  some_of (x ∷ xs) [] h = absurd h
  some_of (x ∷ xs) (y ∷ ys) h = ap₂ (λ a rest. a ∷ rest) h.0 (some_of xs ys h.1)

  zip_some : (xs : List A) (ys : List B) → map f xs ≡ map Some ys → AllZip (GivesSome f) xs ys
  zip_some [] [] e = tt
  zip_some [] (y ∷ ys) e = absurd (cc)
  zip_some (x ∷ xs) [] e = absurd (cc)
  zip_some (x ∷ xs) (y ∷ ys) e = (cc, zip_some xs ys (cc))

-- what isn't so is told as not so
pub untold : {P : Type 0} (told : Bool) → told ≡ false → (P → IsTrue told) → IsTrue false ↔ P
untold told e out = ((λ t. absurd (not_false t)), (λ p. subst IsTrue e (out p)))
  where
    not_false : IsTrue false → ⊥
    not_false t = cc

module _ (values : List Value) (pattern part : Part) where
  pub from_of : Gives (part_at values) pattern part → pattern.from ≡ part.from
  from_of e = ap (λ (it : Part). it.from) e

  pub conds_of : Gives (part_at values) pattern part → AllZip (Gives (atom_at values)) pattern.conds part.conds
  conds_of e = zip_of (atom_at values) pattern.conds part.conds (ap (λ (it : Part). it.conds) e)

  head_of : Gives (part_at values) pattern part → AllZip (Gives (operand_at values)) pattern.head part.head
  head_of e = zip_of (operand_at values) pattern.head part.head (ap (λ (it : Part). it.head) e)

  -- the same of the lists as they are lent
  module _ (xs ys : List Atom) (ex : xs ≡ pattern.conds) (ey : ys ≡ part.conds) where
    pub lent_conds : Gives (part_at values) pattern part → AllZip (Gives (atom_at values)) xs ys
    lent_conds e =
        subst (λ zs. AllZip (Gives (atom_at values)) xs zs) (sym ey) (subst (λ zs. AllZip (Gives (atom_at values)) zs part.conds) (sym ex) (conds_of e))

    module _ (hs ks : List Operand) (eh : hs ≡ pattern.head) (ek : ks ≡ part.head) where
      whole : pattern.from ≡ part.from → AllZip (Gives (atom_at values)) xs ys → AllZip (Gives (operand_at values)) hs ks → Gives (part_at values) pattern part
      whole from conds heads =
          let c : map (atom_at values) pattern.conds ≡ part.conds = subst (λ zs. map (atom_at values) zs ≡ part.conds) ex (map_of (atom_at values) xs ys conds ∙ ey) in
          let h : map (operand_at values) pattern.head ≡ part.head = subst (λ zs. map (operand_at values) zs ≡ part.head) eh (map_of (operand_at values) hs ks heads ∙ ek) in
          subst (λ o. let it : Part = record { from = o; conds = part.conds; head = part.head } in part_at values pattern ≡ it) from
          (ap₂ (λ x y. let it : Part = record { from = pattern.from; conds = x; head = y } in it) c h)

      lent_head : Gives (part_at values) pattern part → AllZip (Gives (operand_at values)) hs ks
      lent_head e =
          subst (λ zs. AllZip (Gives (operand_at values)) hs zs) (sym ek) (subst (λ zs. AllZip (Gives (operand_at values)) zs part.head) (sym eh) (head_of e))

      pub part_of : (told : Bool) → pattern.from ≡ part.from → AllZip (Gives (atom_at values)) xs ys → (IsTrue told ↔ AllZip (Gives (operand_at values)) hs ks)
          → IsTrue told ↔ Gives (part_at values) pattern part
      part_of told from conds heads = ((λ t. whole from conds (heads.0 t)), (λ e. heads.1 (lent_head e)))

pub query_of : (values : List Value) (pattern query : Query) (xs ys : List Part) (told : Bool) → xs ≡ pattern.parts → ys ≡ query.parts
    → (IsTrue told ↔ AllZip (Gives (part_at values)) xs ys) → IsTrue told ↔ (query_at values pattern ≡ query)
query_of values pattern query xs ys told ex ey h = (
  (λ t. ap (λ x. let it : Query = record { parts = x } in it) (subst (λ zs. map (part_at values) zs ≡ query.parts) ex (map_of (part_at values) xs ys (h.0 t) ∙ ey))),
  (λ e. h.1 (subst (λ zs. AllZip (Gives (part_at values)) xs zs) (sym ey) (subst (λ zs. AllZip (Gives (part_at values)) zs query.parts) (sym ex)
      (zip_of (part_at values) pattern.parts query.parts (ap (λ (it : Query). it.parts) e))))),
)

module _ (i : Instance) (entry : ProblemEntry) (told : TraceEntry) (n : ℕ) where
  row_at : (row : List Value) → slice_get told.rows n ≡ Some row → (h : StandsIn i entry told n) → h.row ≡ row
  row_at row is h = let same : Some h.row ≡ Some row = sym h.row_is ∙ is in cc

  -- the row that stands there, and the entry's as they are lent
  module _ (row : List Value) (ps : List Operand) (vs : List Value) (is : slice_get told.rows n ≡ Some row) (ep : ps ≡ entry.row) (ev : vs ≡ row) where
    pub row_of : StandsIn i entry told n → AllZip (GivesSome (fixed_value i)) ps vs
    row_of h =
        zip_some (fixed_value i) ps vs
        (subst (λ zs. map (fixed_value i) zs ≡ map Some vs) (sym ep) (h.values ∙ ap (λ xs. map Some xs) (row_at row is h ∙ sym ev)))

    pub stands_of : (it : Bool) → AllZip (GivesSome (fixed_value i)) ps vs → (IsTrue it ↔ (query_at i.vars entry.query ≡ told.query)) → IsTrue it ↔ StandsIn i entry told n
    stands_of it values query = (
      (λ t. record {
        row = row;
        row_is = is;
        query = sym (query.0 t);
        values = subst (λ zs. map (fixed_value i) zs ≡ map Some row) ep (some_of (fixed_value i) ps vs values ∙ ap (λ xs. map Some xs) ev);
      }),
      (λ h. query.1 (sym h.query)),
    )
