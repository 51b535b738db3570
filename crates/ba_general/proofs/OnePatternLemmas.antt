-- A problem has one pattern with the same of its entries: its operands are those of the problem, where the literals are numbered in order.
use Rattle.std.proofs.Common.{◌≡◌, ◌≢◌, ℕ, zero, suc, ◌+◌, ◌<◌, ◌≤◌, List, [], ◌∷◌, ◌++◌, length, take, drop, map, refl, sym, ap, ap₂, ◌∙◌, subst, add-one, arith}
use Rattle.std.specs.Prelude.{All, Some, slice_get}
use Rattle.std.specs.List.{AllZip, flat_map, range_with_len}
use Rattle.std.proofs.lemmas.List.{length-map, map-append, take_all}
use Rattle.std.proofs.lemmas.Option.{same_Some}
use Rattle.ba_model.specs.Conform.{IsOfKind}
use Rattle.ba_model.specs.declared.policy.Policy.{Policy}
use Rattle.ba_model.specs.declared.query.Atom.{Atom}
use Rattle.ba_model.specs.declared.query.Op.{Op}
use Rattle.ba_model.specs.declared.query.Op.TheVariants as ops
use Rattle.ba_model.specs.declared.query.Operand.{Operand}
use Rattle.ba_model.specs.declared.query.Operand.TheVariants.{Col, Val, Param, Var}
use Rattle.ba_model.specs.declared.query.Part.{Part}
use Rattle.ba_model.specs.declared.query.Query.{Query}
use Rattle.ba_model.specs.declared.schema.Kind.{Kind}
use Rattle.ba_model.specs.declared.schema.Kind.TheVariants as kinds
use Rattle.ba_model.specs.declared.value.Value.{Value}
use Rattle.ba_model.specs.declared.value.Value.TheVariants.{Null, Int, Text}
use Rattle.ba_kernel.specs.Problems.{atom_at, operand_at, part_at, query_at, variable_at}
use Rattle.ba_kernel.specs.declared.problem.Problem.{Problem}
use Rattle.ba_kernel.specs.declared.problem.ProblemEntry.{ProblemEntry}
use Rattle.ba_general.specs.Patterns.{AtomRepeats, EntryRepeats, HasNoLiteral, OpRepeats, PartRepeats, PatternIsOne, QueryRepeats, entry_at, printed, printed_entry, printed_part, printed_query, printed_sides, variable_of}

-- ---- the operands of a pattern, of those that they stand for

-- the literal of an operand, but for NULL
abbrev literal_of : Operand → List Value
literal_of (Col place column) = []
literal_of (Val Null) = []
literal_of (Val (Int n)) = Int n ∷ []
literal_of (Val (Text t)) = Text t ∷ []
literal_of (Param n) = []
literal_of (Var n) = []

-- variables from the first number on for the literals but NULL
abbrev numbered : ℕ → List Operand → List Operand
numbered first [] = []
numbered first (Col place column ∷ os) = Col place column ∷ numbered first os
numbered first (Val Null ∷ os) = Val Null ∷ numbered first os
numbered first (Val (Int n) ∷ os) = Var first ∷ numbered (first + 1) os
numbered first (Val (Text t) ∷ os) = Var first ∷ numbered (first + 1) os
numbered first (Param n ∷ os) = Param n ∷ numbered first os
numbered first (Var n ∷ os) = Var n ∷ numbered first os

-- a value that is there, and those behind it
value_there : (vs : List Value) (n a : ℕ) → n + suc a ≤ length vs → (v : Value) × (slice_get vs n ≡ Some v) × (take (suc a) (drop n vs) ≡ v ∷ take a (drop (n + 1) vs))
value_there [] n a within = absurd (omega arith)
value_there (v ∷ vs) zero a within = (v, refl, refl)
value_there (v ∷ vs) (suc n) a within =
    let w = value_there vs n a (let less : n + suc a ≤ length vs = omega arith in less) in
    (w.0, w.1, w.2 ∙ (ap (λ m. w.0 ∷ take a (drop m vs)) (add-one n) ∙ sym (ap (λ m. w.0 ∷ take a (drop m (v ∷ vs))) (add-one (suc n)))))

module _ (vs : List Value) (not_null : (n : ℕ) (v : Value) → slice_get vs n ≡ Some v → v ≢ Null) where
  -- from the first number on so many variables
  record AreNumbered (first count : ℕ) (os : List Operand) : Type 0 where
    within : first + count ≤ length vs
    literals : All HasNoLiteral os
    own : flat_map variable_of os ≡ range_with_len first count

  record AreOf (first count : ℕ) (os : List Operand) : Type 0 where
    numbers : os ≡ numbered first (map (operand_at vs) os)
    values : take count (drop first vs) ≡ flat_map literal_of (map (operand_at vs) os)

  -- an operand that stays before those that are
  stays : (first count : ℕ) (o : Operand) (os : List Operand) → ((xs : List Operand) → numbered first (o ∷ xs) ≡ o ∷ numbered first xs) → literal_of o ≡ [] →
      operand_at vs o ≡ o → AreOf first count os → AreOf first count (o ∷ os)
  stays first count o os kept none at h =
      record {
        numbers = ap (λ xs. o ∷ xs) h.numbers ∙ (sym (kept (map (operand_at vs) os)) ∙ ap (λ q. numbered first (q ∷ map (operand_at vs) os)) (sym at));
        values = h.values ∙ ap₂ (λ xs ys. xs ++ ys) (sym (ap literal_of at ∙ none)) refl;
      }

  -- a variable before them
  stands : (first count : ℕ) (v : Value) (os : List Operand) → slice_get vs first ≡ Some v → v ≢ Null → take (suc count) (drop first vs) ≡ v ∷ take count (drop (first + 1) vs) →
      AreOf (first + 1) count os → AreOf first (suc count) (Var first ∷ os)
  stands first count Null os at other values h = absurd (other refl)
  stands first count (Int n) os at other values h =
      let here : operand_at vs (Var first) ≡ Val (Int n) = ap (variable_at first) at in
      record {
        numbers = ap (λ xs. Var first ∷ xs) h.numbers ∙ ap (λ q. numbered first (q ∷ map (operand_at vs) os)) (sym here);
        values = values ∙ (ap (λ xs. Int n ∷ xs) h.values ∙ ap (λ q. literal_of q ++ flat_map literal_of (map (operand_at vs) os)) (sym here));
      }
  stands first count (Text t) os at other values h =
      let here : operand_at vs (Var first) ≡ Val (Text t) = ap (variable_at first) at in
      record {
        numbers = ap (λ xs. Var first ∷ xs) h.numbers ∙ ap (λ q. numbered first (q ∷ map (operand_at vs) os)) (sym here);
        values = values ∙ (ap (λ xs. Text t ∷ xs) h.values ∙ ap (λ q. literal_of q ++ flat_map literal_of (map (operand_at vs) os)) (sym here));
      }

  rest : (o : Operand) (os : List Operand) → All HasNoLiteral (o ∷ os) → All HasNoLiteral os
  rest o os h = λ i d below. h (suc i) d (let more : suc i < suc (length os) = omega arith in more)

  are_of : (first count : ℕ) (os : List Operand) → first + count ≤ length vs → All HasNoLiteral os → flat_map variable_of os ≡ range_with_len first count → AreOf first count os
  are_of first zero [] within literals own = record { numbers = refl; values = refl }
  are_of first (suc count) [] within literals own = absurd (let no : ⊥ = cc in no)
  are_of first count (Col place column ∷ os) within literals own =
      stays first count (Col place column) os (λ xs. refl) refl refl (are_of first count os within (rest (Col place column) os literals) own)
  are_of first count (Val v ∷ os) within literals own =
      let null : v ≡ Null = literals 0 (Val v) (let some : 0 < suc (length os) = omega arith in some) in
      let before : AreOf first count os = are_of first count os within (rest (Val v) os literals) own in
      subst (λ u. AreOf first count (Val u ∷ os)) (sym null) (stays first count (Val Null) os (λ xs. refl) refl refl before)
  are_of first count (Param n ∷ os) within literals own =
      stays first count (Param n) os (λ xs. refl) refl refl (are_of first count os within (rest (Param n) os literals) own)
  are_of first zero (Var n ∷ os) within literals own = absurd (let no : ⊥ = cc in no)
  are_of first (suc count) (Var n ∷ os) within literals own =
      let here : n ≡ first = cc in
      let later : flat_map variable_of os ≡ range_with_len (first + 1) count = cc in
      let w = value_there vs first count within in
      let less : (first + 1) + count ≤ length vs = omega arith in
      subst (λ m. AreOf first (suc count) (Var m ∷ os)) (sym here)
      (stands first count w.0 os w.1 (not_null first w.0 w.1) w.2 (are_of (first + 1) count os less (rest (Var n) os literals) later))

-- ---- what is printed with values

-- of a list, as of its elements
all_commute : {X : Type 0} (at : X → X) (operands : X → List Operand) (f : Operand → Operand) → ((x : X) → operands (at x) ≡ map f (operands x)) → (xs : List X) →
    flat_map operands (map at xs) ≡ map f (flat_map operands xs)
all_commute at operands f one [] = refl
all_commute at operands f one (x ∷ xs) = ap₂ (λ ys zs. ys ++ zs) (one x) (all_commute at operands f one xs) ∙ sym (map-append f (operands x) (flat_map operands xs))

abbrev atom_sides : Atom → List Operand
atom_sides atom = printed_sides atom.op atom.left atom.right

module _ (vs : List Value) where
  sides_at : (op : Op) (a b : Operand) → printed_sides op (operand_at vs a) (operand_at vs b) ≡ map (operand_at vs) (printed_sides op a b)
  sides_at ops.Eq a b = refl
  sides_at ops.Ne a b = refl
  sides_at ops.Lt a b = refl
  sides_at ops.Le a b = refl
  sides_at ops.IsNull a b = refl
  sides_at ops.NotNull a b = refl

  atom_printed : (atom : Atom) → atom_sides (atom_at vs atom) ≡ map (operand_at vs) (atom_sides atom)
  atom_printed atom = sides_at atom.op atom.left atom.right

  part_printed : (part : Part) → printed_part (part_at vs part) ≡ map (operand_at vs) (printed_part part)
  part_printed part =
      ap (λ xs. map (operand_at vs) part.head ++ xs) (all_commute (atom_at vs) atom_sides (operand_at vs) atom_printed part.conds) ∙
      sym (map-append (operand_at vs) part.head (flat_map atom_sides part.conds))

  query_printed : (q : Query) → printed_query (query_at vs q) ≡ map (operand_at vs) (printed_query q)
  query_printed q = all_commute (part_at vs) printed_part (operand_at vs) part_printed q.parts

  entry_printed : (entry : ProblemEntry) → printed_entry (entry_at vs entry) ≡ map (operand_at vs) (printed_entry entry)
  entry_printed entry =
      ap (λ xs. xs ++ map (operand_at vs) entry.row) (query_printed entry.query) ∙ sym (map-append (operand_at vs) (printed_query entry.query) entry.row)

  problem_printed : (p : Problem) → printed_query (query_at vs p.goal) ++ flat_map printed_entry (map (entry_at vs) p.entries) ≡ map (operand_at vs) (printed p)
  problem_printed p =
      ap₂ (λ xs ys. xs ++ ys) (query_printed p.goal) (all_commute (entry_at vs) printed_entry (operand_at vs) entry_printed p.entries) ∙
      sym (map-append (operand_at vs) (printed_query p.goal) (flat_map printed_entry p.entries))

-- ---- things with one print that stand for one

-- two lists of one length before others
fronts : {X : Type 0} (xs us ys zs : List X) → length xs ≡ length us → xs ++ ys ≡ us ++ zs → (xs ≡ us) × (ys ≡ zs)
fronts [] [] ys zs same e = (refl, e)
fronts [] (u ∷ us) ys zs same e = absurd (omega arith)
fronts (x ∷ xs) [] ys zs same e = absurd (omega arith)
fronts (x ∷ xs) (u ∷ us) ys zs same e =
    let here : x ≡ u = cc in
    let later : xs ++ ys ≡ us ++ zs = cc in
    let w = fronts xs us ys zs (let less : length xs ≡ length us = omega arith in less) later in
    (ap₂ (λ a b. a ∷ b) here w.0, w.1)

module _ {X : Type 0} (at : X → X) (operands : X → List Operand) (f : Operand → Operand) (Fits : X → Type 0) (commutes : (x : X) → operands (at x) ≡ map f (operands x))
    (one : (x y : X) → Fits x → Fits y → at x ≡ at y → operands x ≡ operands y → x ≡ y) where
  one_wide : (x y : X) → at x ≡ at y → length (operands x) ≡ length (operands y)
  one_wide x y e =
      sym (length-map (operands x) f) ∙ (ap length (sym (commutes x)) ∙ (ap (λ z. length (operands z)) e ∙ (ap length (commutes y) ∙ length-map (operands y) f)))

  lists_one : (xs ys : List X) → All Fits xs → All Fits ys → map at xs ≡ map at ys → flat_map operands xs ≡ flat_map operands ys → xs ≡ ys
  lists_one [] [] h k e same = refl
  lists_one [] (y ∷ ys) h k e same = absurd (let no : ⊥ = cc in no)
  lists_one (x ∷ xs) [] h k e same = absurd (let no : ⊥ = cc in no)
  lists_one (x ∷ xs) (y ∷ ys) h k e same =
      let here : at x ≡ at y = cc in
      let later : map at xs ≡ map at ys = cc in
      let w = fronts (operands x) (operands y) (flat_map operands xs) (flat_map operands ys) (one_wide x y here) same in
      ap₂ (λ a b. a ∷ b)
      (one x y (h 0 x (let some : 0 < suc (length xs) = omega arith in some)) (k 0 y (let some : 0 < suc (length ys) = omega arith in some)) here w.0)
      (lists_one xs ys (λ i d below. h (suc i) d (let more : suc i < suc (length xs) = omega arith in more))
      (λ i d below. k (suc i) d (let more : suc i < suc (length ys) = omega arith in more)) later w.1)

sides_one : (op : Op) (a b c d : Operand) → OpRepeats op a b → OpRepeats op c d → printed_sides op a b ≡ printed_sides op c d → (a ≡ c) × (b ≡ d)
sides_one ops.Eq a b c d h k e = (cc, cc)
sides_one ops.Ne a b c d h k e = (cc, cc)
sides_one ops.Lt a b c d h k e = (cc, cc)
sides_one ops.Le a b c d h k e = (cc, cc)
sides_one ops.IsNull a b c d h k e = let same : a ≡ c = cc in (same, h ∙ (same ∙ sym k))
sides_one ops.NotNull a b c d h k e = let same : a ≡ c = cc in (same, h ∙ (same ∙ sym k))

module _ (vs : List Value) where
  atom_one : (x y : Atom) → AtomRepeats x → AtomRepeats y → atom_at vs x ≡ atom_at vs y → atom_sides x ≡ atom_sides y → x ≡ y
  atom_one x y h k e same =
      let op : x.op ≡ y.op = ap (λ (atom : Atom). atom.op) e in
      let moved : OpRepeats x.op y.left y.right = subst (λ o. OpRepeats o y.left y.right) (sym op) k in
      let w = sides_one x.op x.left x.right y.left y.right h moved (same ∙ ap (λ o. printed_sides o y.left y.right) (sym op)) in
      ap₂ (λ (o : Op) (two : Operand × Operand). record { op = o; left = two.0; right = two.1 }) op (ap₂ (λ a b. (a, b)) w.0 w.1)

  part_one : (x y : Part) → PartRepeats x → PartRepeats y → part_at vs x ≡ part_at vs y → printed_part x ≡ printed_part y → x ≡ y
  part_one x y h k e same =
      let from : x.from ≡ y.from = ap (λ (part : Part). part.from) e in
      let wide : length x.head ≡ length y.head =
      sym (length-map x.head (operand_at vs)) ∙ (ap (λ (part : Part). length part.head) e ∙ length-map y.head (operand_at vs)) in
      let w = fronts x.head y.head (flat_map atom_sides x.conds) (flat_map atom_sides y.conds) wide same in
      let conds : x.conds ≡ y.conds =
      lists_one (atom_at vs) atom_sides (operand_at vs) AtomRepeats (atom_printed vs) atom_one x.conds y.conds h k (ap (λ (part : Part). part.conds) e) w.1 in
      ap₂ (λ (f : List ℕ) (two : List Atom × List Operand). record { from = f; conds = two.0; head = two.1 }) from (ap₂ (λ a b. (a, b)) conds w.0)

  query_one : (x y : Query) → QueryRepeats x → QueryRepeats y → query_at vs x ≡ query_at vs y → printed_query x ≡ printed_query y → x ≡ y
  query_one x y h k e same =
      ap (λ ps. record { parts = ps })
      (lists_one (part_at vs) printed_part (operand_at vs) PartRepeats (part_printed vs) part_one x.parts y.parts h k (ap (λ (q : Query). q.parts) e) same)

  query_wide : (x y : Query) → query_at vs x ≡ query_at vs y → length (printed_query x) ≡ length (printed_query y)
  query_wide x y e = one_wide (query_at vs) printed_query (operand_at vs) QueryRepeats (query_printed vs) query_one x y e

  entry_one : (x y : ProblemEntry) → EntryRepeats x → EntryRepeats y → entry_at vs x ≡ entry_at vs y → printed_entry x ≡ printed_entry y → x ≡ y
  entry_one x y h k e same =
      let query_e : query_at vs x.query ≡ query_at vs y.query = ap (λ (entry : ProblemEntry). entry.query) e in
      let w = fronts (printed_query x.query) (printed_query y.query) x.row y.row (query_wide x.query y.query query_e) same in
      ap₂ (λ (q : Query) (row : List Operand). record { query = q; row = row }) (query_one x.query y.query h k query_e w.0) w.1

-- ---- the pattern

somes_same : {X : Type 0} (xs ys : List X) → map Some xs ≡ map Some ys → xs ≡ ys
somes_same [] [] e = refl
somes_same [] (y ∷ ys) e = absurd (let no : ⊥ = cc in no)
somes_same (x ∷ xs) [] e = absurd (let no : ⊥ = cc in no)
somes_same (x ∷ xs) (y ∷ ys) e =
    let here : Some x ≡ Some y = cc in
    let later : map Some xs ≡ map Some ys = cc in
    ap₂ (λ a b. a ∷ b) (same_Some x y here) (somes_same xs ys later)

kind_one : (v : Value) (a b : Kind) → IsOfKind a v → IsOfKind b v → a ≡ b
kind_one Null a b h k = absurd h
kind_one (Int n) kinds.Int kinds.Int h k = refl
kind_one (Int n) kinds.Int kinds.Text h k = absurd k
kind_one (Int n) kinds.Text b h k = absurd h
kind_one (Text t) kinds.Text kinds.Text h k = refl
kind_one (Text t) kinds.Text kinds.Int h k = absurd k
kind_one (Text t) kinds.Int b h k = absurd h

kinds_one : (vs : List Value) (xs ys : List Kind) → AllZip IsOfKind xs vs → AllZip IsOfKind ys vs → xs ≡ ys
kinds_one [] [] [] h k = refl
kinds_one [] [] (y ∷ ys) h k = absurd k
kinds_one [] (x ∷ xs) ys h k = absurd h
kinds_one (v ∷ vs) [] ys h k = absurd h
kinds_one (v ∷ vs) (x ∷ xs) [] h k = absurd k
kinds_one (v ∷ vs) (x ∷ xs) (y ∷ ys) h k = ap₂ (λ a b. a ∷ b) (kind_one v x y h.0 k.0) (kinds_one vs xs ys h.1 k.1)

kind_not_null : (kind : Kind) (v : Value) → IsOfKind kind v → v ≢ Null
kind_not_null kind Null h e = h
kind_not_null kind (Int n) h e = let no : ⊥ = cc in no
kind_not_null kind (Text t) h e = let no : ⊥ = cc in no

-- no value of a variable is NULL
not_null_at : (xs : List Kind) (vs : List Value) → AllZip IsOfKind xs vs → (n : ℕ) (v : Value) → slice_get vs n ≡ Some v → v ≢ Null
not_null_at xs [] h n v e = absurd (let no : ⊥ = cc in no)
not_null_at [] (u ∷ vs) h n v e = absurd h
not_null_at (x ∷ xs) (u ∷ vs) h zero v e = kind_not_null x v (subst (IsOfKind x) (same_Some u v e) h.0)
not_null_at (x ∷ xs) (u ∷ vs) h (suc n) v e = not_null_at xs vs h.1 n v e

somes_of : {X Y : Type 0} (f : X → Y) (xs : List X) → map Some (map f xs) ≡ map (λ x. Some (f x)) xs
somes_of f [] = refl
somes_of f (x ∷ xs) = ap (λ os. Some (f x) ∷ os) (somes_of f xs)

problem_same : (g h : Problem) → g.policy ≡ h.policy → g.vars ≡ h.vars → g.assumed ≡ h.assumed → g.entries ≡ h.entries → g.goal ≡ h.goal → g ≡ h
problem_same g h policy vars assumed entries goal =
    ap₂ (λ (one : Policy × List Kind) (two : (List Atom × List ProblemEntry) × Query).
    record { policy = one.0; vars = one.1; assumed = two.0.0; entries = two.0.1; goal = two.1 })
    (ap₂ (λ a b. (a, b)) policy vars) (ap₂ (λ a b. (a, b)) (ap₂ (λ a b. (a, b)) assumed entries) goal)

pub pattern_one : PatternIsOne
pattern_one p numbers g h values others k l =
    let a = are_of values (not_null_at g.vars values k.kinds) 0 (length values) (printed g) (let all : 0 + length values ≤ length values = omega arith in all) k.literals k.own in
    let b = are_of others (not_null_at h.vars others l.kinds) 0 (length others) (printed h) (let all : 0 + length others ≤ length others = omega arith in all) l.literals l.own in
    let entries : map (entry_at values) g.entries ≡ map (entry_at others) h.entries =
    somes_same (map (entry_at values) g.entries) (map (entry_at others) h.entries)
    (somes_of (entry_at values) g.entries ∙ (k.entries ∙ (sym l.entries ∙ sym (somes_of (entry_at others) h.entries)))) in
    let image : map (operand_at values) (printed g) ≡ map (operand_at others) (printed h) =
    sym (problem_printed values g) ∙
    (ap₂ (λ q es. printed_query q ++ flat_map printed_entry es) (k.goal ∙ sym l.goal) entries ∙ problem_printed others h) in
    let same : values ≡ others =
    sym (take_all (length values) values (let all : length values ≤ length values = omega arith in all)) ∙
    (a.values ∙ (ap (flat_map literal_of) image ∙ (sym b.values ∙ take_all (length others) others (let all : length others ≤ length others = omega arith in all)))) in
    let prints : printed g ≡ printed h = a.numbers ∙ (ap (numbered 0) image ∙ sym b.numbers) in
    let goal : query_at values g.goal ≡ query_at values h.goal = k.goal ∙ sym (ap (λ vs. query_at vs h.goal) same ∙ l.goal) in
    let w = fronts (printed_query g.goal) (printed_query h.goal) (flat_map printed_entry g.entries) (flat_map printed_entry h.entries) (query_wide values g.goal h.goal goal) prints in (
      problem_same g h (k.policy ∙ sym l.policy)
          (kinds_one values g.vars h.vars k.kinds (subst (AllZip IsOfKind h.vars) (sym same) l.kinds))
          (k.assumed ∙ sym l.assumed)
          (lists_one (entry_at values) printed_entry (operand_at values) EntryRepeats (entry_printed values) (entry_one values) g.entries h.entries k.entries_repeat l.entries_repeat
          (entries ∙ sym (ap (λ vs. map (entry_at vs) h.entries) same)) w.1)
          (query_one values g.goal h.goal k.repeats l.repeats goal w.0),
      same,
    )
