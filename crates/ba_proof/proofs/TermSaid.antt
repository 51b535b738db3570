-- A term or an atom is read exactly where it is said.
use Rattle.std.proofs.Common.{◌≡◌, ◌∙◌, ℕ, ℤ, List, [], ◌∷◌, Bool, true, false, cond, Option, Some, None, Result, Ok, Err, refl, sym, ap, subst, codes, nat_le, nat_lt}
use Rattle.std.specs.Prelude.{option_and_then}
use Rattle.std.specs.List.{position}
use Rattle.std.specs.Str.{bytes_eq}
use Rattle.std.proofs.lemmas.Bool.{lt-ltb, ltb-true}
use Rattle.std.proofs.lemmas.Slice.Eq.{bytes_eq-Decides}
use Rattle.serde_json.specs.Data.{Data, null, boolean, number, string, array, object}
use Rattle.serde_json.specs.Find.{as_i64}
use Rattle.ba_model.specs.Readings.{◌>>=◌}
use Rattle.ba_model.specs.declared.policy.Parameter.{Parameter}
use Rattle.ba_model.specs.declared.query.Op.{Op}
use Rattle.ba_model.specs.declared.query.Op.TheVariants.{Eq, Ne, Lt, Le, IsNull, NotNull}
use Rattle.ba_model.specs.declared.value.Value.TheVariants as value
use Rattle.ba_facts.specs.declared.term.Term.{Term}
use Rattle.ba_facts.specs.declared.term.Term.TheVariants as term
use Rattle.ba_facts.specs.declared.term.TermAtom.{TermAtom}
use Rattle.ba_script.specs.Script.{given_from}
use Rattle.ba_sql_query.proofs.PlaceLemmas.{first_complete, first_sound}
use Rattle.ba_sql_query.specs.Names.{numbered}
use Rattle.ba_sql_query.specs.Reads.{HasParam}
use Rattle.ba_sql_query.specs.declared.fault.ReadQueryFault.TheVariants.{UnknownParam}
use Rattle.ba_proof.proofs.FitLemmas.{bound, good}
use Rattle.ba_proof.proofs.PutLemmas.{same_text}
use Rattle.ba_proof.proofs.SaidLemmas.{OnlyBad, choose, list_is, number_is, number_only, number_said, ok_same, only_bad, only_bind, only_cond, only_ok, only_or, text_is}
use Rattle.ba_proof.proofs.StepLemmas.{op_reads}
use Rattle.ba_proof.specs.Says.{SaysAtom, SaysTerm}
use Rattle.ba_proof.specs.Shapes.{as_list, list_at, or_bad, short, text_at}
use Rattle.ba_proof.specs.Steps.{atom_at, atom_of, atom_with, marked_of, number_at, op_of, pair_of, param_of, term_at, term_given, var_of}
use Rattle.ba_proof.specs.Written.{list_json, op_name}
use Rattle.ba_proof.specs.declared.fault.ProofFault.{ProofFault}
use Rattle.ba_proof.specs.declared.fault.ProofField.TheVariants as field

-- ---- parameters

pub place_numbered : (o : Option ℕ) (n : ℕ) → option_and_then short o ≡ Some n → numbered UnknownParam o ≡ Ok n
place_numbered None n e = cc e
place_numbered (Some m) n e = by (nat_le m 0xffff_ffff) refl e
  where
    by : (b : Bool) → nat_le m 0xffff_ffff ≡ b → cond b (Some m) None ≡ Some n → cond b (Ok m) (Err UnknownParam) ≡ Ok n
    by true t h = let same : m ≡ n = cc h in ap Ok same
    by false t h = cc h

pub numbered_place : (o : Option ℕ) (n : ℕ) → numbered UnknownParam o ≡ Ok n → option_and_then short o ≡ Some n
numbered_place None n e = cc e
numbered_place (Some m) n e = by (nat_le m 0xffff_ffff) refl e
  where
    by : (b : Bool) → nat_le m 0xffff_ffff ≡ b → cond b (Ok m) (Err UnknownParam) ≡ Ok n → cond b (Some m) None ≡ Some n
    by true t h = let same : m ≡ n = cc h in ap Some same
    by false t h = cc h

module _ (params : List Parameter) (vars : ℕ) where
  abbrev place_at : List ℕ → Option ℕ
  place_at name = position (λ parameter. bytes_eq parameter.name name) params

  param_is : (name : List ℕ) (t : Term) → param_of params name ≡ Ok t → (n : ℕ) × HasParam params name n × (t ≡ term.Param n)
  unfolding param_of
  param_is name t e =
      let a = bound (or_bad field.Steps (option_and_then short (place_at name))) (λ n. Ok (term.Param n)) t e in (
        a.0,
        first_sound (λ parameter. bytes_eq parameter.name name) (λ parameter. parameter.name ≡ name) (λ parameter. bytes_eq-Decides parameter.name name) UnknownParam params a.0
            (place_numbered (place_at name) a.0 (good field.Steps (option_and_then short (place_at name)) a.0 a.1)),
        sym (ok_same (term.Param a.0) t a.2),
      )

  param_said : (name : List ℕ) (n : ℕ) → HasParam params name n → param_of params name ≡ Ok (term.Param n)
  unfolding param_of
  param_said name n h =
      ap (λ o. or_bad field.Steps o >>= λ m. Ok (term.Param m))
      (numbered_place (place_at name) n (first_complete (λ parameter. bytes_eq parameter.name name) (λ parameter. parameter.name ≡ name) (λ parameter. bytes_eq-Decides parameter.name name) UnknownParam params n h))

  -- ---- terms

  unknown_is : (d x : Data) (t : Term) → d ≡ list_json (string (codes "u") ∷ x ∷ []) → (number_at x >>= λ n. Ok (term.Unknown n)) ≡ Ok t → SaysTerm params vars d t
  unknown_is d x t is e =
      let n = bound (number_at x) (λ n. Ok (term.Unknown n)) t e in
      subst (SaysTerm params vars d) (ok_same (term.Unknown n.0) t n.2) (x, is, number_is x n.0 n.1)

  named_is : (d x : Data) (t : Term) → d ≡ list_json (string (codes "p") ∷ x ∷ []) → (text_at field.Steps x >>= param_of params) ≡ Ok t → SaysTerm params vars d t
  named_is d x t is e =
      let name = bound (text_at field.Steps x) (param_of params) t e in
      let p = param_is name.0 t name.2 in
      subst (SaysTerm params vars d) (sym p.2) (name.0, is ∙ ap (λ y. list_json (string (codes "p") ∷ y ∷ [])) (text_is field.Steps x name.0 name.1), p.1)

  var_is : (d x : Data) (t : Term) → d ≡ list_json (string (codes "v") ∷ x ∷ []) → (number_at x >>= var_of vars) ≡ Ok t → SaysTerm params vars d t
  var_is d x t is e =
      let n = bound (number_at x) (var_of vars) t e in
      choose (SaysTerm params vars d t) (nat_lt n.0 vars) _ _ t n.2
      (λ b h. subst (SaysTerm params vars d) (ok_same (term.Var n.0) t h) (x, is, number_is x n.0 n.1, ltb-true n.0 vars b))
      (λ h. cc h)

  marked_is : (d x : Data) (mark : List ℕ) (t : Term) → d ≡ list_json (string mark ∷ x ∷ []) → marked_of params vars mark x ≡ Ok t → SaysTerm params vars d t
  unfolding marked_of
  marked_is d x mark t is e =
      choose (SaysTerm params vars d t) (bytes_eq mark (codes "u")) _ _ t e
      (λ b h. unknown_is d x t (is ∙ ap (λ m. list_json (string m ∷ x ∷ [])) (same_text mark (codes "u") b)) h)
      (λ h. choose (SaysTerm params vars d t) (bytes_eq mark (codes "p")) _ _ t h
      (λ b k. named_is d x t (is ∙ ap (λ m. list_json (string m ∷ x ∷ [])) (same_text mark (codes "p") b)) k)
      (λ k. choose (SaysTerm params vars d t) (bytes_eq mark (codes "v")) _ _ t k
      (λ b l. var_is d x t (is ∙ ap (λ m. list_json (string m ∷ x ∷ [])) (same_text mark (codes "v") b)) l)
      (λ l. cc l)))

  pair_is : (d : Data) (ds : List Data) (t : Term) → d ≡ list_json ds → pair_of params vars ds ≡ Ok t → SaysTerm params vars d t
  pair_is d [] t is e = cc e
  pair_is d (mark ∷ []) t is e = cc e
  pair_is d (mark ∷ x ∷ []) t is e =
      let it = bound (text_at field.Steps mark) (λ s. marked_of params vars s x) t e in
      marked_is d x it.0 t (is ∙ ap (λ m. list_json (m ∷ x ∷ [])) (text_is field.Steps mark it.0 it.1)) it.2
  pair_is d (mark ∷ x ∷ other ∷ more) t is e = cc e

  pub term_is : (d : Data) (t : Term) → term_at params vars d ≡ Ok t → SaysTerm params vars d t
  unfolding term_at
  term_is null t e = cc e
  term_is (boolean b) t e = cc e
  term_is (number num) t e = by (as_i64 num) refl e
    where
      by : (o : Option ℤ) → as_i64 num ≡ o → term_given params vars (given_from None o) (number num) ≡ Ok t → SaysTerm params vars (number num) t
      by (Some n) is h = subst (SaysTerm params vars (number num)) (ok_same (term.Val (value.Int n)) t h) ((λ k. cc k), (num, refl, is))
      by None is h = cc h
  term_is (string s) t e = subst (SaysTerm params vars (string s)) (ok_same (term.Val (value.Text s)) t e) ((λ k. cc k), refl)
  term_is (array ds) t e =
      let items = bound (list_at field.Steps (array ds)) (pair_of params vars) t e in
      pair_is (array ds) items.0 t (list_is field.Steps (array ds) items.0 items.1) items.2
  term_is (object ms) t e = cc e

  pub term_said : (d : Data) (t : Term) → SaysTerm params vars d t → term_at params vars d ≡ Ok t
  unfolding term_at marked_of
  term_said d (term.Unknown n) h = ap (term_at params vars) h.1 ∙ rw (number_said h.0 n h.2) refl
  term_said d (term.Val value.Null) h = absurd (h.0 refl)
  term_said d (term.Val (value.Int n)) h = ap (term_at params vars) h.1.1 ∙ ap (λ o. term_given params vars (given_from None o) (number h.1.0)) h.1.2
  term_said d (term.Val (value.Text s)) h = ap (term_at params vars) h.1
  term_said d (term.Param n) h = ap (term_at params vars) h.1 ∙ param_said h.0 n h.2
  term_said d (term.Var n) h = ap (term_at params vars) h.1 ∙ rw (number_said h.0 n h.2, lt-ltb n vars h.3) refl

  marked_only : (mark : List ℕ) (x : Data) → OnlyBad field.Steps (marked_of params vars mark x)
  unfolding marked_of param_of
  marked_only mark x =
      only_cond field.Steps (bytes_eq mark (codes "u")) _ _ (only_bind field.Steps (number_at x) (λ n. Ok (term.Unknown n)) (number_only x) (λ n. only_ok field.Steps (term.Unknown n)))
      (only_cond field.Steps (bytes_eq mark (codes "p")) _ _ (only_bind field.Steps (text_at field.Steps x) (param_of params) (only_or field.Steps _)
      (λ name. only_bind field.Steps (or_bad field.Steps (option_and_then short (position (λ parameter. bytes_eq parameter.name name) params))) (λ n. Ok (term.Param n)) (only_or field.Steps _)
      (λ n. only_ok field.Steps (term.Param n))))
      (only_cond field.Steps (bytes_eq mark (codes "v")) _ _ (only_bind field.Steps (number_at x) (var_of vars) (number_only x)
      (λ n. only_cond field.Steps (nat_lt n vars) _ _ (only_ok field.Steps (term.Var n)) (only_bad field.Steps))) (only_bad field.Steps)))

  pair_only : (ds : List Data) → OnlyBad field.Steps (pair_of params vars ds)
  pair_only [] = only_bad field.Steps
  pair_only (mark ∷ []) = only_bad field.Steps
  pair_only (mark ∷ x ∷ []) = only_bind field.Steps (text_at field.Steps mark) (λ s. marked_of params vars s x) (only_or field.Steps _) (λ s. marked_only s x)
  pair_only (mark ∷ x ∷ other ∷ more) = only_bad field.Steps

  list_only : (d : Data) → OnlyBad field.Steps (list_at field.Steps d >>= pair_of params vars)
  list_only d = only_bind field.Steps (list_at field.Steps d) (pair_of params vars) (only_or field.Steps (as_list d)) pair_only

  pub term_only : (d : Data) → OnlyBad field.Steps (term_at params vars d)
  unfolding term_at
  term_only null = list_only null
  term_only (boolean b) = list_only (boolean b)
  term_only (number num) = by (as_i64 num)
    where
      by : (o : Option ℤ) → OnlyBad field.Steps (term_given params vars (given_from None o) (number num))
      by (Some n) = only_ok field.Steps (term.Val (value.Int n))
      by None = list_only (number num)
  term_only (string s) = only_ok field.Steps (term.Val (value.Text s))
  term_only (array ds) = list_only (array ds)
  term_only (object ms) = list_only (object ms)

  -- ---- atoms

  pub op_is : (s : List ℕ) (op : Op) → op_of s ≡ Ok op → s ≡ op_name op
  unfolding op_of
  op_is s op e =
      choose (s ≡ op_name op) (bytes_eq s (codes "=")) _ _ op e (λ b h. same_text s (codes "=") b ∙ ap op_name (ok_same Eq op h))
      (λ e1. choose (s ≡ op_name op) (bytes_eq s (codes "<>")) _ _ op e1 (λ b h. same_text s (codes "<>") b ∙ ap op_name (ok_same Ne op h))
      (λ e2. choose (s ≡ op_name op) (bytes_eq s (codes "<")) _ _ op e2 (λ b h. same_text s (codes "<") b ∙ ap op_name (ok_same Lt op h))
      (λ e3. choose (s ≡ op_name op) (bytes_eq s (codes "<=")) _ _ op e3 (λ b h. same_text s (codes "<=") b ∙ ap op_name (ok_same Le op h))
      (λ e4. choose (s ≡ op_name op) (bytes_eq s (codes "is null")) _ _ op e4 (λ b h. same_text s (codes "is null") b ∙ ap op_name (ok_same IsNull op h))
      (λ e5. choose (s ≡ op_name op) (bytes_eq s (codes "is not null")) _ _ op e5 (λ b h. same_text s (codes "is not null") b ∙ ap op_name (ok_same NotNull op h))
      (λ e6. cc e6))))))

  op_only : (s : List ℕ) → OnlyBad field.Steps (op_of s)
  unfolding op_of
  op_only s =
      only_cond field.Steps (bytes_eq s (codes "=")) _ _ (only_ok field.Steps Eq)
      (only_cond field.Steps (bytes_eq s (codes "<>")) _ _ (only_ok field.Steps Ne)
      (only_cond field.Steps (bytes_eq s (codes "<")) _ _ (only_ok field.Steps Lt)
      (only_cond field.Steps (bytes_eq s (codes "<=")) _ _ (only_ok field.Steps Le)
      (only_cond field.Steps (bytes_eq s (codes "is null")) _ _ (only_ok field.Steps IsNull)
      (only_cond field.Steps (bytes_eq s (codes "is not null")) _ _ (only_ok field.Steps NotNull) (only_bad field.Steps))))))

  -- the sides behind a name
  abbrev sides : Data → Data → Op → Result TermAtom ProofFault
  sides b c op = term_at params vars b >>= λ left. (term_at params vars c >>= λ right. Ok (atom_with op left right))

  items_atom : (d : Data) (ds : List Data) (atom : TermAtom) → d ≡ list_json ds → atom_of params vars ds ≡ Ok atom → SaysAtom params vars d atom
  items_atom d [] atom is e = cc e
  items_atom d (a ∷ []) atom is e = cc e
  items_atom d (a ∷ b ∷ []) atom is e = cc e
  items_atom d (a ∷ b ∷ c ∷ []) atom is e =
      let op = bound (text_at field.Steps a >>= op_of) (sides b c) atom e in
      let name = bound (text_at field.Steps a) op_of op.0 op.1 in
      let left = bound (term_at params vars b) (λ l. (term_at params vars c >>= λ r. Ok (atom_with op.0 l r))) atom op.2 in
      let right = bound (term_at params vars c) (λ r. Ok (atom_with op.0 left.0 r)) atom left.2 in
      subst (SaysAtom params vars d) (ok_same (atom_with op.0 left.0 right.0) atom right.2)
      (record {
        a = b;
        b = c;
        is = is ∙ ap (λ x. list_json (x ∷ b ∷ c ∷ [])) (text_is field.Steps a name.0 name.1 ∙ ap string (op_is name.0 op.0 name.2));
        left = term_is b left.0 left.1;
        right = term_is c right.0 right.1;
      })
  items_atom d (a ∷ b ∷ c ∷ x ∷ more) atom is e = cc e

  pub atom_is : (d : Data) (atom : TermAtom) → atom_at params vars d ≡ Ok atom → SaysAtom params vars d atom
  atom_is d atom e =
      let items = bound (list_at field.Steps d) (atom_of params vars) atom e in
      items_atom d items.0 atom (list_is field.Steps d items.0 items.1) items.2

  made : (a b : Data) (op : Op) (left right : Term) → SaysTerm params vars a left → SaysTerm params vars b right
      → atom_at params vars (list_json (string (op_name op) ∷ a ∷ b ∷ [])) ≡ Ok (atom_with op left right)
  made a b op left right h k = rw (op_reads op, term_said a left h, term_said b right k) refl

  pub atom_said : (d : Data) (atom : TermAtom) → SaysAtom params vars d atom → atom_at params vars d ≡ Ok atom
  atom_said d atom h = ap (atom_at params vars) h.is ∙ made h.a h.b atom.op atom.left atom.right h.left h.right

  atom_items_only : (ds : List Data) → OnlyBad field.Steps (atom_of params vars ds)
  atom_items_only [] = only_bad field.Steps
  atom_items_only (a ∷ []) = only_bad field.Steps
  atom_items_only (a ∷ b ∷ []) = only_bad field.Steps
  atom_items_only (a ∷ b ∷ c ∷ []) =
      only_bind field.Steps (text_at field.Steps a >>= op_of) (sides b c) (only_bind field.Steps (text_at field.Steps a) op_of (only_or field.Steps _) op_only)
      (λ op. only_bind field.Steps (term_at params vars b) (λ l. (term_at params vars c >>= λ r. Ok (atom_with op l r))) (term_only b)
      (λ l. only_bind field.Steps (term_at params vars c) (λ r. Ok (atom_with op l r)) (term_only c) (λ r. only_ok field.Steps (atom_with op l r))))
  atom_items_only (a ∷ b ∷ c ∷ x ∷ more) = only_bad field.Steps

  pub atom_only : (d : Data) → OnlyBad field.Steps (atom_at params vars d)
  atom_only d = only_bind field.Steps (list_at field.Steps d) (atom_of params vars) (only_or field.Steps (as_list d)) atom_items_only
