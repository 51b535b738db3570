-- A statement: what is read is written so, and what is written so is read.
use Rattle.std.proofs.Common.{◌≡◌, ◌≢◌, ℕ, zero, suc, ◌≤◌, Bool, true, false, List, [], ◌∷◌, ◌++◌, drop, length, map, codes, Result, Ok, refl, sym, ap, subst, ◌∙◌, append_assoc, arith}
use Rattle.std.specs.Char.{to_ascii_lowercase}
use Rattle.std.specs.List.{AllByRecursion}
use Rattle.std.specs.Str.{bytes_eq}
use Rattle.std.proofs.lemmas.Bool.{false_from_ne_true}
use Rattle.std.proofs.lemmas.List.{append-nil, length-append}
use Rattle.std.proofs.lemmas.List.Elements.{All-from_recursion, recursion_from_All}
use Rattle.std.proofs.lemmas.Slice.Eq.{bytes_eq-Decides}
use Rattle.ba_grammar.specs.Front.{Read, all, any_at, begins, is_keyword, is_sign, listed, past}
use Rattle.ba_grammar.specs.Items.{AreSpelled, Item, Spells, with_commas}
use Rattle.ba_grammar.specs.Items.Item.{any, keyword, sign}
use Rattle.ba_grammar.specs.declared.error.Syntax.{Syntax}
use Rattle.ba_grammar.proofs.ListedLemmas.{IsComplete, IsSound, listed_complete, listed_sound}
use Rattle.ba_grammar.proofs.WordLemmas.{Takes, any_read, bind_ok, err_ok, keyword_spelled, ok_same, parts, past_keyword, past_sign, sign_spelled, spelled_keyword, spelled_sign, takes_any, takes_keyword, takes_sign, then}
use Rattle.ba_lex.specs.Word.{is_word}
use Rattle.ba_lex.specs.declared.token.Lexeme.{Lexeme}
use Rattle.ba_lex.specs.declared.token.Lexeme.TheVariants.{Sign as SignWord}
use Rattle.ba_lex.specs.declared.token.Sign.TheVariants.{Comma, LeftParen, RightParen, Semicolon}
use Rattle.ba_model.specs.Readings.{◌>>=◌}
use Rattle.ba_model.specs.declared.policy.Parameter.{Parameter}
use Rattle.ba_model.specs.declared.schema.Kind.{Kind}
use Rattle.ba_model.specs.declared.schema.Kind.TheVariants.{Int as IntKind, Text as TextKind}
use Rattle.ba_policy.specs.Reader.{argument_at, arguments_at, created_at, key_at, kind_at, param_at, parted, parted_from, some_arguments_at, statement_at, statements_at, up_to_end, view_at}
use Rattle.ba_policy.specs.Statements.{AreQueries, AreStatements, IsAlso, IsKey, IsStatement, IsView, StatementText, argument_items, key_items, kind_word, param_items, parameter, view_items}
use Rattle.ba_policy.specs.Statements.StatementText.{key, param, view}

-- ---- words of items, and those behind them

takes_front : (is : List Item) (words rest : List Lexeme) → Takes is words rest → (front : List Lexeme) × AreSpelled is front × (words ≡ front ++ rest)
takes_front [] words rest h = ([], tt, h)
takes_front (i ∷ is) words rest h =
    let f = takes_front is h.1 rest h.4 in
    (h.0 ∷ f.0, (h.3, f.1), h.2 ∙ ap (λ (r : List Lexeme). h.0 ∷ r) f.2)

front_takes : (is : List Item) (front rest : List Lexeme) → AreSpelled is front → Takes is (front ++ rest) rest
front_takes [] [] rest h = refl
front_takes [] (x ∷ xs) rest h = absurd h
front_takes (i ∷ is) [] rest h = absurd h
front_takes (i ∷ is) (x ∷ xs) rest h = (x, xs ++ rest, refl, h.0, front_takes is xs rest h.1)

last_word : (x : Lexeme) (words xs rest : List Lexeme) → words ≡ x ∷ xs → xs ≡ rest → words ≡ x ∷ rest
last_word x words xs rest e f = e ∙ ap (λ (r : List Lexeme). x ∷ r) f

-- ---- the words up to the next `;`

abbrev NoEnd : Lexeme → Type 0
NoEnd x = x ≢ SignWord Semicolon

abbrev end_word : Lexeme
end_word = SignWord Semicolon

pub record UpTo (words q rest : List Lexeme) : Type 0 where
  pub no_end : AllByRecursion NoEnd q
  pub are : words ≡ q ++ end_word ∷ rest

abbrev put : Lexeme → List Lexeme × List Lexeme → Read (List Lexeme)
put x r = Ok (x ∷ r.0, r.1)

up_sound : (words : List Lexeme) (p : List Lexeme × List Lexeme) → up_to_end words ≡ Ok p → UpTo words p.0 p.1
unfolding up_to_end
up_sound [] p e = absurd (err_ok p e)
up_sound (x ∷ xs) p e = at (is_sign Semicolon x) refl (up_sound xs)
  where
    none : is_sign Semicolon x ≡ false → NoEnd x
    none h same = let wrong : true ≡ false = sym (ap (is_sign Semicolon) same) ∙ h in cc

    at : (t : Bool) → is_sign Semicolon x ≡ t → ((p : List Lexeme × List Lexeme) → up_to_end xs ≡ Ok p → UpTo xs p.0 p.1) → UpTo (x ∷ xs) p.0 p.1
    at true h below =
        subst (λ (r : List Lexeme × List Lexeme). UpTo (x ∷ xs) r.0 r.1) (ok_same ([], xs) p (rw h at e)) (record { no_end = tt; are = ap (λ (y : Lexeme). y ∷ xs) (sign_spelled Semicolon x h) })
    at false h below =
        let a = bind_ok (up_to_end xs) (put x) p (rw h at e) in
        let r = below a.0 a.1 in
        subst (λ (r : List Lexeme × List Lexeme). UpTo (x ∷ xs) r.0 r.1) (ok_same (x ∷ a.0.0, a.0.1) p a.2) (record { no_end = (none h, r.no_end); are = ap (λ (ys : List Lexeme). x ∷ ys) r.are })

up_complete : (q rest : List Lexeme) → AllByRecursion NoEnd q → up_to_end (q ++ end_word ∷ rest) ≡ Ok (q, rest)
unfolding up_to_end
up_complete [] rest h = refl
up_complete (x ∷ q) rest h =
    let differs : is_sign Semicolon x ≡ false = false_from_ne_true (is_sign Semicolon x) (λ e. h.0 (sign_spelled Semicolon x e)) in
    rw differs (rw (up_complete q rest h.1) refl)

-- ---- a kind

other_keyword : (k j : List ℕ) (x : Lexeme) → Spells (keyword k) x → bytes_eq (map to_ascii_lowercase k) (map to_ascii_lowercase j) ≡ false → is_keyword j x ≡ false
unfolding is_word
other_keyword k j x h differ =
    let same : map to_ascii_lowercase h.0 ≡ map to_ascii_lowercase k = (bytes_eq-Decides (map to_ascii_lowercase h.0) (map to_ascii_lowercase k)).0 h.2 in
    rw h.1 (ap (λ (w : List ℕ). bytes_eq w (map to_ascii_lowercase j)) same ∙ differ)

abbrev IsKindRead : List Lexeme → Kind × List Lexeme → Type 0
IsKindRead words p = Takes (keyword (kind_word p.0) ∷ []) words p.1

kind_sound : (words : List Lexeme) (p : Kind × List Lexeme) → kind_at words ≡ Ok p → IsKindRead words p
unfolding kind_at
kind_sound [] p e = absurd (err_ok p e)
kind_sound (x ∷ xs) p e = at (is_keyword (codes "INT") x) (is_keyword (codes "TEXT") x) refl refl
  where
    at : (t u : Bool) → is_keyword (codes "INT") x ≡ t → is_keyword (codes "TEXT") x ≡ u → IsKindRead (x ∷ xs) p
    at true u h k = subst (IsKindRead (x ∷ xs)) (ok_same (IntKind, xs) p (rw h at e)) (x, xs, refl, keyword_spelled (codes "INT") x h, refl)
    at false true h k = subst (IsKindRead (x ∷ xs)) (ok_same (TextKind, xs) p (rw (h, k) at e)) (x, xs, refl, keyword_spelled (codes "TEXT") x k, refl)
    at false false h k = absurd (err_ok p (rw (h, k) at e))

kind_complete : (words xs : List Lexeme) (x : Lexeme) (k : Kind) → words ≡ x ∷ xs → Spells (keyword (kind_word k)) x → kind_at words ≡ Ok (k, xs)
unfolding kind_at
kind_complete words xs x IntKind e h = rw (e, spelled_keyword (codes "INT") x h) refl
kind_complete words xs x TextKind e h = rw (e, other_keyword (codes "TEXT") (codes "INT") x h refl, spelled_keyword (codes "TEXT") x h) refl

-- ---- the arguments of a key

abbrev Always : Parameter → Type 0
Always p = Unit {0}

always : (ps : List Parameter) → AllByRecursion Always ps
always [] = tt
always (p ∷ ps) = (tt, always ps)

some_of : (p : Parameter) (ps : List Parameter) → p ∷ ps ≢ []
some_of p ps e = cc

abbrev argument_end : List ℕ → Kind × List Lexeme → Read Parameter
argument_end n k = Ok (parameter n k.0, k.1)

abbrev argument_kind : List ℕ × List Lexeme → Read Parameter
argument_kind n = kind_at n.1 >>= argument_end n.0

abbrev IsArgumentRead : List Lexeme → Parameter × List Lexeme → Type 0
IsArgumentRead words p = Takes (argument_items p.0) words p.1

argument_sound : IsSound argument_at argument_items Always
unfolding argument_at
argument_sound words rest p e =
    let a = bind_ok (any_at words) argument_kind (p, rest) e in
    let b = bind_ok (kind_at a.0.1) (argument_end a.0.0) (p, rest) a.2 in
    let made : Takes (argument_items (parameter a.0.0 b.0.0)) words b.0.1 =
    then (any a.0.0 ∷ []) (keyword (kind_word b.0.0) ∷ []) words a.0.1 b.0.1 (takes_any words a.0.1 a.0.0 a.1) (kind_sound a.0.1 b.0 b.1) in
    (subst (IsArgumentRead words) (ok_same (parameter a.0.0 b.0.0, b.0.1) (p, rest) b.2) made, tt)

argument_complete : IsComplete argument_at argument_items Always
unfolding argument_at
argument_complete words rest p t u =
    let k = t.4 in
    rw (any_read words t.1 t.0 p.name t.2 t.3) (rw (kind_complete t.1 rest k.0 p.kind (last_word k.0 t.1 k.1 rest k.2 k.4) k.3) refl)

-- the arguments and the bracket behind them
pub record IsArgumentsRead (words : List Lexeme) (p : List Parameter × List Lexeme) : Type 0 where
  pub mid : List Lexeme
  pub arguments : Takes (with_commas (map argument_items p.0)) words mid
  pub bracket : Takes (sign RightParen ∷ []) mid p.1

abbrev arguments_end : List Parameter → List Lexeme → Read (List Parameter)
arguments_end ps rest = Ok (ps, rest)

abbrev arguments_right : List Parameter × List Lexeme → Read (List Parameter)
arguments_right ps = past (is_sign RightParen) ps.1 >>= arguments_end ps.0

some_arguments_sound : (words : List Lexeme) (p : List Parameter × List Lexeme) → some_arguments_at words ≡ Ok p → IsArgumentsRead words p
unfolding some_arguments_at
some_arguments_sound words p e =
    let a = bind_ok (listed (is_sign Comma) argument_at words) arguments_right p e in
    let b = bind_ok (past (is_sign RightParen) a.0.1) (arguments_end a.0.0) p a.2 in
    let read = listed_sound argument_at argument_items Always argument_sound words a.0.1 a.0.0 a.1 in
    subst (IsArgumentsRead words) (ok_same (a.0.0, b.0) p b.2) (record { mid = a.0.1; arguments = read.takes; bracket = takes_sign RightParen a.0.1 b.0 b.1 })

arguments_sound : (words : List Lexeme) (p : List Parameter × List Lexeme) → arguments_at words ≡ Ok p → IsArgumentsRead words p
unfolding arguments_at
arguments_sound [] p e = some_arguments_sound [] p e
arguments_sound (x ∷ xs) p e = at (is_sign RightParen x) refl
  where
    at : (t : Bool) → is_sign RightParen x ≡ t → IsArgumentsRead (x ∷ xs) p
    at true h = subst (IsArgumentsRead (x ∷ xs)) (ok_same ([], xs) p (rw h at e)) (record { mid = x ∷ xs; arguments = refl; bracket = (x, xs, refl, sign_spelled RightParen x h, refl) })
    at false h = some_arguments_sound (x ∷ xs) p (rw h at e)

arguments_complete : (ps : List Parameter) (words mid xs : List Lexeme) (x : Lexeme) → Takes (with_commas (map argument_items ps)) words mid → mid ≡ x ∷ xs → Spells (sign RightParen) x → arguments_at words ≡ Ok (ps, xs)
unfolding arguments_at some_arguments_at
arguments_complete [] words mid xs x t e h = rw (t ∙ e) (rw (spelled_sign RightParen x h) refl)
arguments_complete (p ∷ ps) words mid xs x t e h =
    let starts : begins (is_sign RightParen) words ≡ false = rw (t.2, t.3) refl in
    let stops : begins (is_sign Comma) mid ≡ false = rw (e, h) refl in
    let all_are : listed (is_sign Comma) argument_at words ≡ Ok (p ∷ ps, mid) =
    listed_complete argument_at argument_items Always argument_complete words mid (p ∷ ps) (record { some = some_of p ps; takes = t; each = always (p ∷ ps) }) stops in
    rw starts (rw all_are (rw (past_sign RightParen x mid xs e h) refl))

-- ---- the words between the words ALSO

abbrev NoAlso : Lexeme → Type 0
NoAlso x = ¬ IsAlso x

abbrev also : List ℕ
also = codes "ALSO"

not_also : (x : Lexeme) → is_keyword also x ≡ false → NoAlso x
not_also x h spelled = let wrong : true ≡ false = sym (spelled_keyword also x spelled) ∙ h in cc

is_not_also : (x : Lexeme) → NoAlso x → is_keyword also x ≡ false
is_not_also x h = false_from_ne_true (is_keyword also x) (λ e. h (keyword_spelled also x e))

no_also_more : (front : List Lexeme) (x : Lexeme) → AllByRecursion NoAlso front → NoAlso x → AllByRecursion NoAlso (front ++ x ∷ [])
no_also_more [] x h none = (none, tt)
no_also_more (y ∷ front) x h none = (h.0, no_also_more front x h.1 none)

some_parted : (words front : List Lexeme) → (q : List Lexeme) × (qs : List (List Lexeme)) × (parted_from front words ≡ q ∷ qs)
unfolding parted_from
some_parted [] front = (front, [], refl)
some_parted (x ∷ xs) front = at (is_keyword also x) refl (some_parted xs (front ++ x ∷ []))
  where
    at : (t : Bool) → is_keyword also x ≡ t → ((q : List Lexeme) × (qs : List (List Lexeme)) × (parted_from (front ++ x ∷ []) xs ≡ q ∷ qs)) → (q : List Lexeme) × (qs : List (List Lexeme)) × (parted_from front (x ∷ xs) ≡ q ∷ qs)
    at true h more = (front, parted_from [] xs, rw h refl)
    at false h more = (more.0, more.1, rw h more.2)

parted_sound : (words front : List Lexeme) → AllByRecursion NoAlso front → AreQueries (parted_from front words) (front ++ words)
unfolding parted_from
parted_sound [] front h = (All-from_recursion NoAlso front h, append-nil front)
parted_sound (x ∷ xs) front h = at (is_keyword also x) refl (parted_sound xs)
  where
    at : (t : Bool) → is_keyword also x ≡ t → ((front : List Lexeme) → AllByRecursion NoAlso front → AreQueries (parted_from front xs) (front ++ xs)) → AreQueries (parted_from front (x ∷ xs)) (front ++ x ∷ xs)
    at true g below =
        let more = some_parted xs [] in
        let is : parted_from front (x ∷ xs) ≡ front ∷ more.0 ∷ more.1 = rw g (ap (λ (ps : List (List Lexeme)). front ∷ ps) more.2) in
        subst (λ (ps : List (List Lexeme)). AreQueries ps (front ++ x ∷ xs)) (sym is)
        (x, xs, keyword_spelled also x g, All-from_recursion NoAlso front h, refl, subst (λ (ps : List (List Lexeme)). AreQueries ps xs) more.2 (below [] tt))
    at false g below =
        let is : parted_from front (x ∷ xs) ≡ parted_from (front ++ x ∷ []) xs = rw g refl in
        subst (λ (ps : List (List Lexeme)). AreQueries ps (front ++ x ∷ xs)) (sym is)
        (subst (AreQueries (parted_from (front ++ x ∷ []) xs)) (append_assoc front (x ∷ []) xs) (below (front ++ x ∷ []) (no_also_more front x h (not_also x g))))

parted_past : (words front rest : List Lexeme) → AllByRecursion NoAlso words → parted_from front (words ++ rest) ≡ parted_from (front ++ words) rest
unfolding parted_from
parted_past [] front rest h = ap (λ (f : List Lexeme). parted_from f rest) (sym (append-nil front))
parted_past (x ∷ xs) front rest h =
    rw (is_not_also x h.0) (parted_past xs (front ++ x ∷ []) rest h.1) ∙ ap (λ (f : List Lexeme). parted_from f rest) (append_assoc front (x ∷ []) xs)

parted_at : (front rest : List Lexeme) (x : Lexeme) → IsAlso x → parted_from front (x ∷ rest) ≡ front ∷ parted_from [] rest
unfolding parted_from
parted_at front rest x h = rw (spelled_keyword also x h) refl

parted_end : (front : List Lexeme) → parted_from front [] ≡ front ∷ []
unfolding parted_from
parted_end front = refl

parted_complete : (qs : List (List Lexeme)) (words : List Lexeme) → AreQueries qs words → parted words ≡ qs
parted_complete [] words h = absurd h
parted_complete (q ∷ []) words h =
    ap parted (h.1 ∙ sym (append-nil q)) ∙ parted_past q [] [] (recursion_from_All NoAlso q h.0) ∙ parted_end q
parted_complete (q ∷ r ∷ qs) words h =
    ap parted h.4 ∙ parted_past q [] (h.0 ∷ h.1) (recursion_from_All NoAlso q h.3) ∙ parted_at q h.1 h.0 h.2
    ∙ ap (λ (ps : List (List Lexeme)). q ∷ ps) (parted_complete (r ∷ qs) h.1 h.5)

-- ---- a statement at the front, and the words behind it

pub record Stands (s : StatementText) (words rest : List Lexeme) : Type 0 where
  pub front : List Lexeme
  pub is : IsStatement s front
  pub are : words ≡ front ++ rest

abbrev IsRead : List Lexeme → StatementText × List Lexeme → Type 0
IsRead words p = Stands p.0 words p.1

abbrev param_end : List ℕ → Kind → List Lexeme → Read StatementText
param_end n k rest = Ok (param n k, rest)

abbrev param_semicolon : List ℕ → Kind × List Lexeme → Read StatementText
param_semicolon n k = past (is_sign Semicolon) k.1 >>= param_end n k.0

abbrev param_kind : List ℕ × List Lexeme → Read StatementText
param_kind n = kind_at n.1 >>= param_semicolon n.0

abbrev param_name : List Lexeme → Read StatementText
param_name rest = any_at rest >>= param_kind

param_sound : (words : List Lexeme) (p : StatementText × List Lexeme) → param_at words ≡ Ok p → IsRead words p
unfolding param_at
param_sound words p e =
    let a = bind_ok (past (is_keyword (codes "PARAM")) words) param_name p e in
    let b = bind_ok (any_at a.0) param_kind p a.2 in
    let c = bind_ok (kind_at b.0.1) (param_semicolon b.0.0) p b.2 in
    let d = bind_ok (past (is_sign Semicolon) c.0.1) (param_end b.0.0 c.0.0) p c.2 in
    let made : Takes (param_items b.0.0 c.0.0) words d.0 =
    then (keyword (codes "PARAM") ∷ []) (any b.0.0 ∷ keyword (kind_word c.0.0) ∷ sign Semicolon ∷ []) words a.0 d.0 (takes_keyword (codes "PARAM") words a.0 a.1)
    (then (any b.0.0 ∷ []) (keyword (kind_word c.0.0) ∷ sign Semicolon ∷ []) a.0 b.0.1 d.0 (takes_any a.0 b.0.1 b.0.0 b.1)
    (then (keyword (kind_word c.0.0) ∷ []) (sign Semicolon ∷ []) b.0.1 c.0.1 d.0 (kind_sound b.0.1 c.0 c.1) (takes_sign Semicolon c.0.1 d.0 d.1))) in
    let f = takes_front (param_items b.0.0 c.0.0) words d.0 made in
    subst (IsRead words) (ok_same (param b.0.0 c.0.0, d.0) p d.2) (record { front = f.0; is = f.1; are = f.2 })

abbrev view_end : List ℕ → List Lexeme × List Lexeme → Read StatementText
view_end n q = Ok (view n q.0, q.1)

abbrev view_query : List ℕ → List Lexeme → Read StatementText
view_query n rest = up_to_end rest >>= view_end n

abbrev view_as : List ℕ × List Lexeme → Read StatementText
view_as n = past (is_keyword (codes "AS")) n.1 >>= view_query n.0

abbrev view_name : List Lexeme → Read StatementText
view_name rest = any_at rest >>= view_as

abbrev view_word : List Lexeme → Read StatementText
view_word rest = past (is_keyword (codes "VIEW")) rest >>= view_name

joined : (front q rest : List Lexeme) → front ++ (q ++ end_word ∷ rest) ≡ (front ++ (q ++ end_word ∷ [])) ++ rest
joined front q rest =
    sym (append_assoc front (q ++ end_word ∷ []) rest ∙ ap (λ (r : List Lexeme). front ++ r) (append_assoc q (end_word ∷ []) rest))

view_sound : (words : List Lexeme) (p : StatementText × List Lexeme) → view_at words ≡ Ok p → IsRead words p
unfolding view_at
view_sound words p e =
    let a = bind_ok (past (is_keyword (codes "CREATE")) words) view_word p e in
    let b = bind_ok (past (is_keyword (codes "VIEW")) a.0) view_name p a.2 in
    let c = bind_ok (any_at b.0) view_as p b.2 in
    let d = bind_ok (past (is_keyword (codes "AS")) c.0.1) (view_query c.0.0) p c.2 in
    let f = bind_ok (up_to_end d.0) (view_end c.0.0) p d.2 in
    let made : Takes (view_items c.0.0) words d.0 =
    then (keyword (codes "CREATE") ∷ []) (keyword (codes "VIEW") ∷ any c.0.0 ∷ keyword (codes "AS") ∷ []) words a.0 d.0 (takes_keyword (codes "CREATE") words a.0 a.1)
    (then (keyword (codes "VIEW") ∷ []) (any c.0.0 ∷ keyword (codes "AS") ∷ []) a.0 b.0 d.0 (takes_keyword (codes "VIEW") a.0 b.0 b.1)
    (then (any c.0.0 ∷ []) (keyword (codes "AS") ∷ []) b.0 c.0.1 d.0 (takes_any b.0 c.0.1 c.0.0 c.1) (takes_keyword (codes "AS") c.0.1 d.0 d.1))) in
    let g = takes_front (view_items c.0.0) words d.0 made in
    let q = up_sound d.0 f.0 f.1 in
    let is : IsView c.0.0 f.0.0 (g.0 ++ (f.0.0 ++ end_word ∷ [])) = record { front = g.0; spelled = g.1; no_end = All-from_recursion NoEnd f.0.0 q.no_end; are = refl } in
    subst (IsRead words) (ok_same (view c.0.0 f.0.0, f.0.1) p f.2) (record { front = g.0 ++ (f.0.0 ++ end_word ∷ []); is = is; are = g.2 ∙ ap (λ (r : List Lexeme). g.0 ++ r) q.are ∙ joined g.0 f.0.0 f.0.1 })

abbrev key_end : List ℕ → List Parameter → List Lexeme × List Lexeme → Read StatementText
key_end n ps q = Ok (key n ps (parted q.0), q.1)

abbrev key_queries : List ℕ → List Parameter → List Lexeme → Read StatementText
key_queries n ps rest = up_to_end rest >>= key_end n ps

abbrev key_as : List ℕ → List Parameter × List Lexeme → Read StatementText
key_as n ps = past (is_keyword (codes "AS")) ps.1 >>= key_queries n ps.0

abbrev key_arguments : List ℕ → List Lexeme → Read StatementText
key_arguments n rest = arguments_at rest >>= key_as n

abbrev key_bracket : List ℕ × List Lexeme → Read StatementText
key_bracket n = past (is_sign LeftParen) n.1 >>= key_arguments n.0

abbrev key_name : List Lexeme → Read StatementText
key_name rest = any_at rest >>= key_bracket

abbrev key_word : List Lexeme → Read StatementText
key_word rest = past (is_keyword (codes "KEY")) rest >>= key_name

key_front : (n : List ℕ) (ps : List Parameter) (w0 w1 w2 w3 w4 w5 w6 : List Lexeme) → Takes (keyword (codes "CREATE") ∷ []) w0 w1 → Takes (keyword (codes "KEY") ∷ []) w1 w2 → Takes (any n ∷ []) w2 w3 → Takes (sign LeftParen ∷ []) w3 w4
    → IsArgumentsRead w4 (ps, w5) → Takes (keyword (codes "AS") ∷ []) w5 w6 → Takes (key_items n ps) w0 w6
key_front n ps w0 w1 w2 w3 w4 w5 w6 a b c d f g =
    let behind : Takes (with_commas (map argument_items ps) ++ sign RightParen ∷ keyword (codes "AS") ∷ []) w4 w6 =
    then (with_commas (map argument_items ps)) (sign RightParen ∷ keyword (codes "AS") ∷ []) w4 f.mid w6 f.arguments (then (sign RightParen ∷ []) (keyword (codes "AS") ∷ []) f.mid w5 w6 f.bracket g) in
    then (keyword (codes "CREATE") ∷ []) (keyword (codes "KEY") ∷ any n ∷ sign LeftParen ∷ (with_commas (map argument_items ps) ++ sign RightParen ∷ keyword (codes "AS") ∷ [])) w0 w1 w6 a
    (then (keyword (codes "KEY") ∷ []) (any n ∷ sign LeftParen ∷ (with_commas (map argument_items ps) ++ sign RightParen ∷ keyword (codes "AS") ∷ [])) w1 w2 w6 b
    (then (any n ∷ []) (sign LeftParen ∷ (with_commas (map argument_items ps) ++ sign RightParen ∷ keyword (codes "AS") ∷ [])) w2 w3 w6 c
    (then (sign LeftParen ∷ []) (with_commas (map argument_items ps) ++ sign RightParen ∷ keyword (codes "AS") ∷ []) w3 w4 w6 d behind)))

key_sound : (words : List Lexeme) (p : StatementText × List Lexeme) → key_at words ≡ Ok p → IsRead words p
unfolding key_at
key_sound words p e =
    let a = bind_ok (past (is_keyword (codes "CREATE")) words) key_word p e in
    let b = bind_ok (past (is_keyword (codes "KEY")) a.0) key_name p a.2 in
    let c = bind_ok (any_at b.0) key_bracket p b.2 in
    let d = bind_ok (past (is_sign LeftParen) c.0.1) (key_arguments c.0.0) p c.2 in
    let f = bind_ok (arguments_at d.0) (key_as c.0.0) p d.2 in
    let g = bind_ok (past (is_keyword (codes "AS")) f.0.1) (key_queries c.0.0 f.0.0) p f.2 in
    let h = bind_ok (up_to_end g.0) (key_end c.0.0 f.0.0) p g.2 in
    let made : Takes (key_items c.0.0 f.0.0) words g.0 =
    key_front c.0.0 f.0.0 words a.0 b.0 c.0.1 d.0 f.0.1 g.0 (takes_keyword (codes "CREATE") words a.0 a.1) (takes_keyword (codes "KEY") a.0 b.0 b.1) (takes_any b.0 c.0.1 c.0.0 c.1) (takes_sign LeftParen c.0.1 d.0 d.1)
    (arguments_sound d.0 f.0 f.1) (takes_keyword (codes "AS") f.0.1 g.0 g.1) in
    let front = takes_front (key_items c.0.0 f.0.0) words g.0 made in
    let q = up_sound g.0 h.0 h.1 in
    let is : IsKey c.0.0 f.0.0 (parted h.0.0) (front.0 ++ (h.0.0 ++ end_word ∷ [])) =
    record { front = front.0; behind = h.0.0; spelled = front.1; queries_are = parted_sound h.0.0 [] tt; no_end = All-from_recursion NoEnd h.0.0 q.no_end; are = refl } in
    subst (IsRead words) (ok_same (key c.0.0 f.0.0 (parted h.0.0), h.0.1) p h.2)
    (record { front = front.0 ++ (h.0.0 ++ end_word ∷ []); is = is; are = front.2 ∙ ap (λ (r : List Lexeme). front.0 ++ r) q.are ∙ joined front.0 h.0.0 h.0.1 })

created_sound : (words : List Lexeme) (p : StatementText × List Lexeme) → created_at words ≡ Ok p → IsRead words p
unfolding created_at
created_sound words p e = at (begins (is_keyword (codes "KEY")) (drop 1 words)) refl
  where
    at : (t : Bool) → begins (is_keyword (codes "KEY")) (drop 1 words) ≡ t → IsRead words p
    at true h = key_sound words p (rw h at e)
    at false h = view_sound words p (rw h at e)

statement_sound : (words : List Lexeme) (p : StatementText × List Lexeme) → statement_at words ≡ Ok p → IsRead words p
unfolding statement_at
statement_sound words p e = at (begins (is_keyword (codes "PARAM")) words) refl
  where
    at : (t : Bool) → begins (is_keyword (codes "PARAM")) words ≡ t → IsRead words p
    at true h = param_sound words p (rw h at e)
    at false h = created_sound words p (rw h at e)

param_complete : (words rest : List Lexeme) (n : List ℕ) (k : Kind) → Takes (param_items n k) words rest → statement_at words ≡ Ok (param n k, rest)
unfolding statement_at param_at
param_complete words rest n k t =
    let a = t.4 in
    let b = a.4 in
    let c = b.4 in
    let starts : begins (is_keyword (codes "PARAM")) words ≡ true = rw (t.2, spelled_keyword (codes "PARAM") t.0 t.3) refl in
    rw starts
    (rw (past_keyword (codes "PARAM") t.0 words t.1 t.2 t.3)
    (rw (any_read t.1 a.1 a.0 n a.2 a.3)
    (rw (kind_complete a.1 b.1 b.0 k b.2 b.3)
    (rw (past_sign Semicolon c.0 b.1 rest (last_word c.0 b.1 c.1 rest c.2 c.4) c.3) refl))))

view_complete : (words mid rest q : List Lexeme) (n : List ℕ) → Takes (view_items n) words mid → mid ≡ q ++ end_word ∷ rest → AllByRecursion NoEnd q → statement_at words ≡ Ok (view n q, rest)
unfolding statement_at created_at view_at
view_complete words mid rest q n t e free =
    let a = t.4 in
    let b = a.4 in
    let c = b.4 in
    let starts : begins (is_keyword (codes "PARAM")) words ≡ false = rw (t.2, other_keyword (codes "CREATE") (codes "PARAM") t.0 t.3 refl) refl in
    let creates : begins (is_keyword (codes "KEY")) (drop 1 words) ≡ false = rw (t.2, a.2, other_keyword (codes "VIEW") (codes "KEY") a.0 a.3 refl) refl in
    let query : up_to_end mid ≡ Ok (q, rest) = ap up_to_end e ∙ up_complete q rest free in
    rw starts
    (rw creates
    (rw (past_keyword (codes "CREATE") t.0 words t.1 t.2 t.3)
    (rw (past_keyword (codes "VIEW") a.0 t.1 a.1 a.2 a.3)
    (rw (any_read a.1 b.1 b.0 n b.2 b.3)
    (rw (past_keyword (codes "AS") c.0 b.1 mid (last_word c.0 b.1 c.1 mid c.2 c.4) c.3) (rw query refl))))))

key_complete : (words mid rest q : List Lexeme) (n : List ℕ) (ps : List Parameter) (qs : List (List Lexeme)) → Takes (key_items n ps) words mid → mid ≡ q ++ end_word ∷ rest → AllByRecursion NoEnd q → AreQueries qs q → statement_at words ≡ Ok (key n ps qs, rest)
unfolding statement_at created_at key_at
key_complete words mid rest q n ps qs t e free queries =
    let a = t.4 in
    let b = a.4 in
    let c = b.4 in
    let r = parts (with_commas (map argument_items ps)) (sign RightParen ∷ keyword (codes "AS") ∷ []) c.1 mid c.4 in
    let close = r.2 in
    let as_word = close.4 in
    let starts : begins (is_keyword (codes "PARAM")) words ≡ false = rw (t.2, other_keyword (codes "CREATE") (codes "PARAM") t.0 t.3 refl) refl in
    let creates : begins (is_keyword (codes "KEY")) (drop 1 words) ≡ true = rw (t.2, a.2, spelled_keyword (codes "KEY") a.0 a.3) refl in
    let query : up_to_end mid ≡ Ok (q, rest) = ap up_to_end e ∙ up_complete q rest free in
    rw starts
    (rw creates
    (rw (past_keyword (codes "CREATE") t.0 words t.1 t.2 t.3)
    (rw (past_keyword (codes "KEY") a.0 t.1 a.1 a.2 a.3)
    (rw (any_read a.1 b.1 b.0 n b.2 b.3)
    (rw (past_sign LeftParen c.0 b.1 c.1 c.2 c.3)
    (rw (arguments_complete ps c.1 r.0 close.1 close.0 r.1 close.2 close.3)
    (rw (past_keyword (codes "AS") as_word.0 close.1 mid (last_word as_word.0 close.1 as_word.1 mid as_word.2 as_word.4) as_word.3)
    (rw query (rw (parted_complete qs q queries) refl)))))))))

statement_complete : (s : StatementText) (front rest : List Lexeme) → IsStatement s front → statement_at (front ++ rest) ≡ Ok (s, rest)
statement_complete (param n k) front rest h = param_complete (front ++ rest) rest n k (front_takes (param_items n k) front rest h)
statement_complete (view n q) front rest h =
    let mid : List Lexeme = q ++ end_word ∷ rest in
    let are : front ++ rest ≡ h.front ++ mid = ap (λ (f : List Lexeme). f ++ rest) h.are ∙ sym (joined h.front q rest) in
    ap statement_at are ∙ view_complete (h.front ++ mid) mid rest q n (front_takes (view_items n) h.front mid h.spelled) refl (recursion_from_All NoEnd q h.no_end)
statement_complete (key n ps qs) front rest h =
    let mid : List Lexeme = h.behind ++ end_word ∷ rest in
    let are : front ++ rest ≡ h.front ++ mid = ap (λ (f : List Lexeme). f ++ rest) h.are ∙ sym (joined h.front h.behind rest) in
    ap statement_at are ∙ key_complete (h.front ++ mid) mid rest h.behind n ps qs (front_takes (key_items n ps) h.front mid h.spelled) refl (recursion_from_All NoEnd h.behind h.no_end) h.queries_are

-- ---- all of the words

abbrev put_all : StatementText → List StatementText → Result (List StatementText) Syntax
put_all x ys = Ok (x ∷ ys)

all_sound : (fuel : ℕ) (words : List Lexeme) (ss : List StatementText) → all statement_at fuel words ≡ Ok ss → AreStatements ss words
unfolding all
all_sound fuel [] ss e = subst (λ (xs : List StatementText). AreStatements xs []) (ok_same [] ss e) refl
all_sound zero (w ∷ ws) ss e = absurd (err_ok ss e)
all_sound (suc fuel) (w ∷ ws) ss e =
    let a = bind_ok (statement_at (w ∷ ws)) (λ x. all statement_at fuel x.1 >>= put_all x.0) ss e in
    let b = bind_ok (all statement_at fuel a.0.1) (put_all a.0.0) ss a.2 in
    let s = statement_sound (w ∷ ws) a.0 a.1 in
    subst (λ (xs : List StatementText). AreStatements xs (w ∷ ws)) (ok_same (a.0.0 ∷ b.0) ss b.2) (s.front, a.0.1, s.is, s.are, all_sound fuel a.0.1 b.0 b.1)

some_words : (s : StatementText) (front : List Lexeme) → IsStatement s front → (w : Lexeme) × (ws : List Lexeme) × (front ≡ w ∷ ws)
some_words (param n k) [] h = absurd h
some_words (param n k) (x ∷ xs) h = (x, xs, refl)
some_words (view n q) front h = of h.front h.spelled h.are
  where
    of : (f : List Lexeme) → AreSpelled (view_items n) f → front ≡ f ++ (q ++ end_word ∷ []) → (w : Lexeme) × (ws : List Lexeme) × (front ≡ w ∷ ws)
    of [] spelled e = absurd spelled
    of (x ∷ xs) spelled e = (x, xs ++ (q ++ end_word ∷ []), e)
some_words (key n ps qs) front h = of h.front h.spelled h.are
  where
    of : (f : List Lexeme) → AreSpelled (key_items n ps) f → front ≡ f ++ (h.behind ++ end_word ∷ []) → (w : Lexeme) × (ws : List Lexeme) × (front ≡ w ∷ ws)
    of [] spelled e = absurd spelled
    of (x ∷ xs) spelled e = (x, xs ++ (h.behind ++ end_word ∷ []), e)

all_complete : (ss : List StatementText) (fuel : ℕ) (words : List Lexeme) → length words ≤ fuel → AreStatements ss words → all statement_at fuel words ≡ Ok ss
unfolding all
all_complete [] fuel words le h = rw h refl
all_complete (s ∷ ss) zero words le h =
    let some = some_words s h.0 h.2 in
    let size = ap length h.3 in
    let front = ap length some.2 in
    absurd (omega (arith, le, size, front, length-append h.0 h.1))
all_complete (s ∷ ss) (suc fuel) words le h =
    let some = some_words s h.0 h.2 in
    let size = ap length h.3 in
    let front = ap length some.2 in
    let left : length h.1 ≤ fuel = omega (arith, le, size, front, length-append h.0 h.1) in
    let are : words ≡ some.0 ∷ (some.1 ++ h.1) = h.3 ∙ ap (λ (f : List Lexeme). f ++ h.1) some.2 in
    let read : statement_at (some.0 ∷ (some.1 ++ h.1)) ≡ Ok (s, h.1) = ap statement_at (sym (ap (λ (f : List Lexeme). f ++ h.1) some.2)) ∙ statement_complete s h.0 h.1 h.2 in
    rw are (rw read (rw (all_complete ss fuel h.1 left h.4) refl))

pub statements_sound : (words : List Lexeme) (ss : List StatementText) → statements_at words ≡ Ok ss → AreStatements ss words
statements_sound words ss e = all_sound (length words) words ss e

pub statements_complete : (words : List Lexeme) (ss : List StatementText) → AreStatements ss words → statements_at words ≡ Ok ss
statements_complete words ss h = all_complete ss (length words) words (omega arith) h
