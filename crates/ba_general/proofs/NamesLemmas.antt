-- Names for the literals of one thing after another.
use Rattle.std.proofs.Common.{◌≡◌, ℕ, zero, suc, ◌+◌, ◌<◌, ◌≤◌, List, [], ◌∷◌, ◌++◌, length, get_or, take, map, refl, sym, ap, ap₂, ◌∙◌, subst, append_assoc, append-nil, arith}
use Rattle.std.specs.Prelude.{All, IfOk, Some, None, Result, Ok, Err, slice_get}
use Rattle.std.specs.declared.alloc.AllocError.{AllocError}
use Rattle.std.specs.List.{flat_map, range_with_len}
use Rattle.std.proofs.lemmas.Grind.{flat_map-append}
use Rattle.std.proofs.lemmas.List.{length-append, map-append, take_all}
use Rattle.std.proofs.lemmas.List.Elements.{All-append, All-cons, All-nil}
use Rattle.ba_facts.proofs.Elements.{get_append_old, get_push_new}
use Rattle.ba_kernel.proofs.CaseFactLemmas.{zip_append}
use Rattle.ba_kernel.proofs.ZipLemmas.{taken}
use Rattle.ba_kernel.specs.Problems.{atom_at, operand_at, part_at, query_at, variable_at}
use Rattle.ba_kernel.specs.declared.problem.ProblemEntry.{ProblemEntry}
use Rattle.ba_model.specs.Conform.{IsOfKind}
use Rattle.ba_model.specs.Fit.{kind_of_value}
use Rattle.ba_model.specs.declared.query.Atom.{Atom}
use Rattle.ba_model.specs.declared.query.Op.{Op}
use Rattle.ba_model.specs.declared.query.Op.TheVariants as ops
use Rattle.ba_model.specs.declared.query.Operand.{Operand}
use Rattle.ba_model.specs.declared.query.Operand.TheVariants.{Col, Val, Param, Var}
use Rattle.ba_model.specs.declared.query.Part.{Part}
use Rattle.ba_model.specs.declared.query.Query.{Query}
use Rattle.ba_model.specs.declared.schema.Kind.{Kind}
use Rattle.ba_model.specs.declared.schema.Kind.TheVariants as kinds
use Rattle.ba_model.specs.declared.value.Value.{Value}
use Rattle.ba_model.specs.declared.value.Value.TheVariants as values
use Rattle.ba_general.specs.Patterns.{AtomIsAsked, HasNoLiteral, IsGiven, IsOneSided, IsTwoSided, Named, Names, NamesAll, NamesAtom, NamesEntries, NamesOperand, NamesOperands, OpRepeats, entry_at, printed_entry, printed_part, printed_query, printed_sides, variable_of}

pub range_append : (first n m : ℕ) → range_with_len first (n + m) ≡ range_with_len first n ++ range_with_len (first + n) m
range_append first zero m = ap₂ range_with_len (let e : first ≡ first + 0 = omega arith in e) (let e : 0 + m ≡ m = omega arith in e)
range_append first (suc n) m =
    ap (range_with_len first) (let e : suc n + m ≡ suc (n + m) = omega arith in e) ∙
    ap (λ ns. first ∷ ns) (range_append (first + 1) n m ∙ ap (λ k. range_with_len (first + 1) n ++ range_with_len k m) (let e : (first + 1) + n ≡ first + suc n = omega arith in e))

-- ---- nothing new

pub names_none : {X : Type 0} (at : List Value → X → X) (operands : X → List Operand) (old : Named) (x it : X) → ((vs : List Value) → at vs it ≡ x) →
    All HasNoLiteral (operands it) → flat_map variable_of (operands it) ≡ [] → Names at operands old x old it
names_none at operands old x it same literals own =
    record {
      more = [];
      kinds = [];
      values_are = sym (append-nil old.values);
      kinds_are = sym (append-nil old.kinds);
      of_kinds = tt;
      same = λ beyond. same (old.values ++ beyond);
      literals = literals;
      own = own;
    }

pub names_nil : {X : Type 0} (at : List Value → X → X) (operands : X → List Operand) (old : Named) → NamesAll at operands old [] old []
names_nil at operands old = names_none (λ vs. map (at vs)) (flat_map operands) old [] [] (λ vs. refl) (All-nil HasNoLiteral) refl

-- ---- of one thing, as of another that is made of it

pub names_as : {X Z : Type 0} (at : List Value → X → X) (operands : X → List Operand) (at_whole : List Value → Z → Z) (operands_whole : Z → List Operand) (f : X → Z)
    (old new : Named) (x it : X) → ((vs : List Value) → at_whole vs (f it) ≡ f (at vs it)) → operands_whole (f it) ≡ operands it → Names at operands old x new it →
    Names at_whole operands_whole old (f x) new (f it)
names_as at operands at_whole operands_whole f old new x it whole same h =
    record {
      more = h.more;
      kinds = h.kinds;
      values_are = h.values_are;
      kinds_are = h.kinds_are;
      of_kinds = h.of_kinds;
      same = λ beyond. whole (new.values ++ beyond) ∙ ap f (h.same beyond);
      literals = subst (All HasNoLiteral) (sym same) h.literals;
      own = ap (flat_map variable_of) same ∙ h.own;
    }

-- ---- one after another

module _ {X Y Z : Type 0} (at_left : List Value → X → X) (left_operands : X → List Operand) (at_right : List Value → Y → Y) (right_operands : Y → List Operand)
    (at_both : List Value → Z → Z) (both_operands : Z → List Operand) (both : X → Y → Z) where
  pub names_both : (old mid new : Named) (x i : X) (y j : Y) → ((vs : List Value) → at_both vs (both i j) ≡ both (at_left vs i) (at_right vs j)) →
      both_operands (both i j) ≡ left_operands i ++ right_operands j → Names at_left left_operands old x mid i → Names at_right right_operands mid y new j →
      Names at_both both_operands old (both x y) new (both i j)
  names_both old mid new x i y j at_is operands_are h k =
      let values_are : new.values ≡ old.values ++ (h.more ++ k.more) = k.values_are ∙ (ap (λ vs. vs ++ k.more) h.values_are ∙ append_assoc old.values h.more k.more) in
      let wide : length mid.values ≡ length old.values + length h.more = ap length h.values_are ∙ length-append old.values h.more in
      record {
        more = h.more ++ k.more;
        kinds = h.kinds ++ k.kinds;
        values_are = values_are;
        kinds_are = k.kinds_are ∙ (ap (λ ks. ks ++ k.kinds) h.kinds_are ∙ append_assoc old.kinds h.kinds k.kinds);
        of_kinds = zip_append IsOfKind h.kinds k.kinds h.more k.more h.of_kinds k.of_kinds;
        same = λ beyond.
            at_is (new.values ++ beyond) ∙
            ap₂ both
            (ap (λ vs. at_left vs i) (ap (λ vs. vs ++ beyond) k.values_are ∙ append_assoc mid.values k.more beyond) ∙ h.same (k.more ++ beyond))
            (k.same beyond);
        literals = subst (All HasNoLiteral) (sym operands_are) (All-append HasNoLiteral (left_operands i) (right_operands j) h.literals k.literals);
        own =
            ap (flat_map variable_of) operands_are ∙
            (flat_map-append variable_of (left_operands i) (right_operands j) ∙
            (ap₂ (λ ns ms. ns ++ ms) h.own (k.own ∙ ap (λ n. range_with_len n (length k.more)) wide) ∙
            (sym (range_append (length old.values) (length h.more) (length k.more)) ∙ ap (range_with_len (length old.values)) (sym (length-append h.more k.more)))));
      }

-- ---- lists

pub names_push : {X : Type 0} (at : List Value → X → X) (operands : X → List Operand) (old mid new : Named) (xs its : List X) (x it : X) →
    NamesAll at operands old xs mid its → Names at operands mid x new it → NamesAll at operands old (xs ++ x ∷ []) new (its ++ it ∷ [])
names_push at operands old mid new xs its x it h k =
    names_both (λ vs. map (at vs)) (flat_map operands) at operands (λ vs. map (at vs)) (flat_map operands) (λ ys y. ys ++ y ∷ []) old mid new xs its x it
    (λ vs. map-append (at vs) its (it ∷ []))
    (flat_map-append operands its (it ∷ []) ∙ ap (λ os. flat_map operands its ++ os) (append-nil (operands it)))
    h k

pub names_more : {X : Type 0} (at : List Value → X → X) (operands : X → List Operand) (old mid new : Named) (xs : List X) (i : ℕ) (x it : X) (its pushed : List X) →
    i < length xs → x ≡ get_or xs i x → NamesAll at operands old (take i xs) mid its → Names at operands mid x new it → pushed ≡ its ++ it ∷ [] →
    NamesAll at operands old (take (i + 1) xs) new pushed
names_more at operands old mid new xs i x it its pushed below at_i h k e =
    subst (λ ys. NamesAll at operands old ys new pushed) (sym (taken xs i x below at_i))
    (subst (λ ys. NamesAll at operands old (take i xs ++ x ∷ []) new ys) (sym e) (names_push at operands old mid new (take i xs) its x it h k))

pub names_all : {X : Type 0} (at : List Value → X → X) (operands : X → List Operand) (old new : Named) (xs its : List X) (n : ℕ) → length xs ≤ n →
    NamesAll at operands old (take n xs) new its → NamesAll at operands old xs new its
names_all at operands old new xs its n whole h = subst (λ ys. NamesAll at operands old ys new its) (take_all n xs whole) h

pub all_none : {X : Type 0} (P : X → Type 0) (xs : List X) → xs ≡ [] → All P xs
all_none P xs e = subst (All P) (sym e) (All-nil P)

pub all_pushed : {X : Type 0} (P : X → Type 0) (xs pushed : List X) (x : X) → All P xs → P x → pushed ≡ xs ++ x ∷ [] → All P pushed
all_pushed P xs pushed x h k e = subst (All P) (sym e) (All-append P xs (x ∷ []) h (All-cons P x [] k (All-nil P)))

-- ---- operands

stays : (old : Named) (operand : Operand) → ((vs : List Value) → operand_at vs operand ≡ operand) → HasNoLiteral operand → variable_of operand ≡ [] →
    NamesOperand old operand old operand
stays old operand same none own =
    names_none operand_at (λ x. x ∷ []) old operand operand same (All-cons HasNoLiteral operand [] none (All-nil HasNoLiteral)) (ap (λ ns. ns ++ []) own)

pub operand_stays : (old : Named) (operand it : Operand) → IsGiven operand → ((v : Value) → ¬ (operand ≡ Val v)) → it ≡ operand → NamesOperand old operand old it
operand_stays old (Col place column) it given other e = subst (λ o. NamesOperand old (Col place column) old o) (sym e) (stays old (Col place column) (λ vs. refl) tt refl)
operand_stays old (Val v) it given other e = absurd (other v refl)
operand_stays old (Param n) it given other e = subst (λ o. NamesOperand old (Param n) old o) (sym e) (stays old (Param n) (λ vs. refl) tt refl)
operand_stays old (Var n) it given other e = absurd given

pub copy_stays : (old : Named) (operand : Operand) (result : Result Operand AllocError) → IsGiven operand → ((v : Value) → ¬ (operand ≡ Val v)) →
    IfOk result (λ it. it ≡ operand) → IfOk result (NamesOperand old operand old)
copy_stays old operand (Ok it) given other e = operand_stays old operand it given other e
copy_stays old operand (Err failed) given other e = tt

pub null_stays : (old : Named) (v : Value) → kind_of_value v ≡ None → NamesOperand old (Val v) old (Val values.Null)
null_stays old values.Null e = stays old (Val values.Null) (λ vs. refl) refl refl
null_stays old (values.Int n) e = cc
null_stays old (values.Text t) e = cc

of_kind : (v : Value) (kind : Kind) → kind_of_value v ≡ Some kind → IsOfKind kind v
of_kind values.Null kind e = absurd (let no : ⊥ = cc in no)
of_kind (values.Int n) kinds.Int e = tt
of_kind (values.Int n) kinds.Text e = absurd (let no : ⊥ = cc in no)
of_kind (values.Text t) kinds.Int e = absurd (let no : ⊥ = cc in no)
of_kind (values.Text t) kinds.Text e = tt

pub literal_named : (old new : Named) (v : Value) (kind : Kind) (number : ℕ) → kind_of_value v ≡ Some kind → number ≡ length old.values →
    new.kinds ≡ old.kinds ++ kind ∷ [] → new.values ≡ old.values ++ v ∷ [] → NamesOperand old (Val v) new (Var number)
literal_named old new v kind number kind_is number_is kinds_are values_are =
    let at : (beyond : List Value) → slice_get (new.values ++ beyond) number ≡ Some v =
    λ beyond. get_append_old new.values beyond number v
    (ap₂ slice_get values_are number_is ∙ get_push_new old.values v) in
    record {
      more = v ∷ [];
      kinds = kind ∷ [];
      values_are = values_are;
      kinds_are = kinds_are;
      of_kinds = (of_kind v kind kind_is, tt);
      same = λ beyond. ap (variable_at number) (at beyond);
      literals = All-cons HasNoLiteral (Var number) [] tt (All-nil HasNoLiteral);
      own = ap (λ n. n ∷ []) number_is;
    }

-- a list of operands is printed as it is
operands_are : (os : List Operand) → flat_map (λ x. x ∷ []) os ≡ os
operands_are [] = refl
operands_are (o ∷ os) = ap (λ ps. o ∷ ps) (operands_are os)

module _ (old new : Named) (os its : List Operand) where
  from_all : NamesAll operand_at (λ x. x ∷ []) old os new its → NamesOperands old os new its
  from_all h =
      names_as (λ vs. map (operand_at vs)) (flat_map (λ x. x ∷ [])) (λ vs. map (operand_at vs)) (λ xs. xs) (λ xs. xs) old new os its (λ vs. refl)
      (sym (operands_are its)) h

  into_all : NamesOperands old os new its → NamesAll operand_at (λ x. x ∷ []) old os new its
  into_all h =
      names_as (λ vs. map (operand_at vs)) (λ xs. xs) (λ vs. map (operand_at vs)) (flat_map (λ x. x ∷ [])) (λ xs. xs) old new os its (λ vs. refl)
      (operands_are its) h

pub operands_none : (old : Named) → NamesOperands old [] old []
operands_none old = from_all old old [] [] (names_nil operand_at (λ x. x ∷ []) old)

pub operands_more : (old mid new : Named) (xs : List Operand) (i : ℕ) (x it : Operand) (its pushed : List Operand) → i < length xs → x ≡ get_or xs i x →
    NamesOperands old (take i xs) mid its → NamesOperand mid x new it → pushed ≡ its ++ it ∷ [] → NamesOperands old (take (i + 1) xs) new pushed
operands_more old mid new xs i x it its pushed below at h k e =
    from_all old new (take (i + 1) xs) pushed
    (names_more operand_at (λ x. x ∷ []) old mid new xs i x it its pushed below at (into_all old mid (take i xs) its h) k e)

pub operands_all : (old new : Named) (xs its : List Operand) (n : ℕ) → length xs ≤ n → NamesOperands old (take n xs) new its → NamesOperands old xs new its
operands_all old new xs its n whole h = subst (λ ys. NamesOperands old ys new its) (take_all n xs whole) h

-- ---- atoms

abbrev sides : Atom → List Operand
sides x = printed_sides x.op x.left x.right

two_printed : (op : Op) (left right : Operand) → IsTwoSided op → printed_sides op left right ≡ left ∷ right ∷ []
two_printed ops.Eq left right h = refl
two_printed ops.Ne left right h = refl
two_printed ops.Lt left right h = refl
two_printed ops.Le left right h = refl
two_printed ops.IsNull left right h = absurd (h tt)
two_printed ops.NotNull left right h = absurd (h tt)

one_printed : (op : Op) (left right : Operand) → IsOneSided op → printed_sides op left right ≡ left ∷ []
one_printed ops.Eq left right h = absurd h
one_printed ops.Ne left right h = absurd h
one_printed ops.Lt left right h = absurd h
one_printed ops.Le left right h = absurd h
one_printed ops.IsNull left right h = refl
one_printed ops.NotNull left right h = refl

repeated : (op : Op) (left right : Operand) → IsOneSided op → OpRepeats op left right → right ≡ left
repeated ops.Eq left right h k = absurd h
repeated ops.Ne left right h k = absurd h
repeated ops.Lt left right h k = absurd h
repeated ops.Le left right h k = absurd h
repeated ops.IsNull left right h k = k
repeated ops.NotNull left right h k = k

pub two_repeats : (op : Op) (left right : Operand) → IsTwoSided op → OpRepeats op left right
two_repeats ops.Eq left right two = tt
two_repeats ops.Ne left right two = tt
two_repeats ops.Lt left right two = tt
two_repeats ops.Le left right two = tt
two_repeats ops.IsNull left right two = absurd (two tt)
two_repeats ops.NotNull left right two = absurd (two tt)

pub one_repeats : (op : Op) (left right : Operand) → right ≡ left → OpRepeats op left right
one_repeats ops.Eq left right e = tt
one_repeats ops.Ne left right e = tt
one_repeats ops.Lt left right e = tt
one_repeats ops.Le left right e = tt
one_repeats ops.IsNull left right e = e
one_repeats ops.NotNull left right e = e

pub atom_by_two : (old mid new : Named) (atom : Atom) (left right : Operand) → IsTwoSided atom.op → NamesOperand old atom.left mid left →
    NamesOperand mid atom.right new right → NamesAtom old atom new (record { op = atom.op; left = left; right = right })
atom_by_two old mid new atom left right two h k =
    names_both operand_at (λ x. x ∷ []) operand_at (λ x. x ∷ []) atom_at sides (λ l r. record { op = atom.op; left = l; right = r })
    old mid new atom.left left atom.right right (λ vs. refl) (two_printed atom.op left right two) h k

pub atom_by_one : (old new : Named) (atom : Atom) (left right : Operand) → IsOneSided atom.op → AtomIsAsked atom → right ≡ left →
    NamesOperand old atom.left new left → NamesAtom old atom new (record { op = atom.op; left = left; right = right })
atom_by_one old new atom left right one asked e h =
    let repeats : atom.right ≡ atom.left = repeated atom.op atom.left atom.right one asked.repeats in
    let f : Operand → Atom = λ l. record { op = atom.op; left = l; right = l } in
    subst (λ r. NamesAtom old atom new (record { op = atom.op; left = left; right = r })) (sym e)
    (subst (λ r. NamesAtom old (record { op = atom.op; left = atom.left; right = r }) new (f left)) (sym repeats)
    (names_as operand_at (λ x. x ∷ []) atom_at sides f old new atom.left left (λ vs. refl) (one_printed atom.op left left one) h))

-- ---- queries and entries

pub part_named : (old mid new : Named) (part it : Part) → it.from ≡ part.from → NamesOperands old part.head mid it.head →
    NamesAll atom_at (λ x. printed_sides x.op x.left x.right) mid part.conds new it.conds → Names part_at printed_part old part new it
part_named old mid new part it from h k =
    subst (λ f. Names part_at printed_part old part new (record { from = f; conds = it.conds; head = it.head })) (sym from)
    (names_both (λ vs. map (operand_at vs)) (λ xs. xs) (λ vs. map (atom_at vs)) (flat_map sides) part_at printed_part
    (λ head conds. record { from = part.from; conds = conds; head = head }) old mid new part.head it.head part.conds it.conds (λ vs. refl) refl h k)

pub query_named : (old new : Named) (q it : Query) → NamesAll part_at printed_part old q.parts new it.parts → Names query_at printed_query old q new it
query_named old new q it h =
    names_as (λ vs. map (part_at vs)) (flat_map printed_part) query_at printed_query (λ ps. record { parts = ps }) old new q.parts it.parts (λ vs. refl) refl h

pub entry_named : (old mid new : Named) (entry it : ProblemEntry) → Names query_at printed_query old entry.query mid it.query → NamesOperands mid entry.row new it.row →
    Names entry_at printed_entry old entry new it
entry_named old mid new entry it h k =
    names_both query_at printed_query (λ vs. map (operand_at vs)) (λ xs. xs) entry_at printed_entry (λ q row. record { query = q; row = row })
    old mid new entry.query it.query entry.row it.row (λ vs. refl) refl h k

-- ---- the entries of numbers

pub entries_none : (old : Named) (entries : List ProblemEntry) → NamesEntries old entries [] old []
entries_none old entries = record { taken = []; taken_are = refl; names = names_nil entry_at printed_entry old }

pub entries_more : (old mid new : Named) (entries : List ProblemEntry) (numbers : List ℕ) (i number : ℕ) (entry it : ProblemEntry) (its pushed : List ProblemEntry) →
    i < length numbers → number ≡ get_or numbers i number → slice_get entries number ≡ Some entry → NamesEntries old entries (take i numbers) mid its →
    Names entry_at printed_entry mid entry new it → pushed ≡ its ++ it ∷ [] → NamesEntries old entries (take (i + 1) numbers) new pushed
entries_more old mid new entries numbers i number entry it its pushed below at there h k e =
    record {
      taken = h.taken ++ entry ∷ [];
      taken_are =
          ap (map (slice_get entries)) (Rattle.ba_kernel.proofs.ZipLemmas.taken numbers i number below at) ∙
          (map-append (slice_get entries) (take i numbers) (number ∷ []) ∙
          (ap₂ (λ os o. os ++ o ∷ []) h.taken_are there ∙ sym (map-append Some h.taken (entry ∷ []))));
      names =
          subst (λ ys. NamesAll entry_at printed_entry old (h.taken ++ entry ∷ []) new ys) (sym e)
          (names_push entry_at printed_entry old mid new h.taken its entry it h.names k);
    }

pub entries_all : (old new : Named) (entries : List ProblemEntry) (numbers : List ℕ) (its : List ProblemEntry) (n : ℕ) → length numbers ≤ n →
    NamesEntries old entries (take n numbers) new its → NamesEntries old entries numbers new its
entries_all old new entries numbers its n whole h = subst (λ ns. NamesEntries old entries ns new its) (take_all n numbers whole) h
