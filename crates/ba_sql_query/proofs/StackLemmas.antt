-- The loops over members and nodes, one element more at a time.
use Rattle.std.proofs.Common.{◌≡◌, ℕ, ◌+◌, ◌<◌, ◌≤◌, List, [], ◌∷◌, ◌++◌, length, take, reverse, get_or, refl, sym, ap, ◌∙◌}
use Rattle.std.specs.List.{flat_map}
use Rattle.std.proofs.lemmas.List.{flat_map_more, nil_from_length, reverse-append, take_all, take_more}
use Rattle.ba_model.specs.declared.query.Atom.{Atom}
use Rattle.ba_sql_query.specs.Parts.{after, count_after, count_run, count_top, members, run, top_of}
use Rattle.ba_sql_query.specs.declared.count.Count.{Count}
use Rattle.ba_sql_query.specs.declared.resolved.ResolvedNode.{ResolvedNode}

pub taken : {X : Type 0} (xs : List X) (i : ℕ) (x : X) → i < length xs → x ≡ get_or xs i x → take (i + 1) xs ≡ take i xs ++ x ∷ []
taken xs i x lt is = take_more xs i x lt ∙ ap (λ y. take i xs ++ y ∷ []) (sym is)

pub flat_more : {X Y : Type 0} (f : X → List Y) (xs : List X) (i : ℕ) (x : X) (found found2 more : List Y) → i < length xs → x ≡ get_or xs i x
    → found ≡ flat_map f (take i xs) → more ≡ f x → found2 ≡ found ++ more → found2 ≡ flat_map f (take (i + 1) xs)
flat_more f xs i x found found2 more lt is e g h = rw (h, e, g, taken xs i x lt is) (flat_map_more f [] (take i xs) x)

-- what a stack of a list's last element on top has as its top
pub pushed : {X : Type 0} (rest : List X) (x : X) → reverse (rest ++ x ∷ []) ≡ x ∷ reverse rest
pushed rest x = reverse-append rest (x ∷ [])

-- ---- members

run_more : (ns : List ResolvedNode) (n : ResolvedNode) (stack : List (List (List Atom))) → run (ns ++ n ∷ []) stack ≡ after n (run ns stack)
run_more [] n stack = refl
run_more (m ∷ ns) n stack = run_more ns n (after m stack)

pub run_goes_on : (ns : List ResolvedNode) (i : ℕ) (n : ResolvedNode) (old new : List (List (List Atom))) → i < length ns → n ≡ get_or ns i n
    → old ≡ run (take i ns) [] → new ≡ after n old → new ≡ run (take (i + 1) ns) []
run_goes_on ns i n old new lt is e g = rw (taken ns i n lt is, run_more (take i ns) n [], g, e) refl

pub members_top : (ns : List ResolvedNode) (i : ℕ) (stack rest : List (List (List Atom))) (ms : List (List Atom)) → length ns ≤ i
    → reverse stack ≡ run (take i ns) [] → stack ≡ rest ++ ms ∷ [] → ms ≡ members ns
unfolding members
members_top ns i stack rest ms le e g =
    let r : ms ∷ reverse rest ≡ run ns [] = sym (pushed rest ms) ∙ ap reverse (sym g) ∙ e ∙ ap (λ (xs : List ResolvedNode). run xs []) (take_all i ns le) in
    ap top_of r

pub members_none : (ns : List ResolvedNode) (i : ℕ) (stack : List (List (List Atom))) → length ns ≤ i → reverse stack ≡ run (take i ns) [] → length stack ≡ 0 → [] ∷ [] ≡ members ns
unfolding members
members_none ns i stack le e g =
    let r : [] ≡ run ns [] = ap reverse (sym (nil_from_length stack g)) ∙ e ∙ ap (λ (xs : List ResolvedNode). run xs []) (take_all i ns le) in
    ap top_of r

-- ---- counts

count_run_more : (ns : List ResolvedNode) (n : ResolvedNode) (stack : List Count) → count_run (ns ++ n ∷ []) stack ≡ count_after n (count_run ns stack)
count_run_more [] n stack = refl
count_run_more (m ∷ ns) n stack = count_run_more ns n (count_after m stack)

pub count_goes_on : (ns : List ResolvedNode) (i : ℕ) (n : ResolvedNode) (old new : List Count) → i < length ns → n ≡ get_or ns i n
    → old ≡ count_run (take i ns) [] → new ≡ count_after n old → new ≡ count_run (take (i + 1) ns) []
count_goes_on ns i n old new lt is e g = rw (taken ns i n lt is, count_run_more (take i ns) n [], g, e) refl

pub counts_top : (ns : List ResolvedNode) (i : ℕ) (stack rest : List Count) (c : Count) → length ns ≤ i
    → reverse stack ≡ count_run (take i ns) [] → stack ≡ rest ++ c ∷ [] → c ≡ count_top (count_run ns [])
counts_top ns i stack rest c le e g =
    let r : c ∷ reverse rest ≡ count_run ns [] = sym (pushed rest c) ∙ ap reverse (sym g) ∙ e ∙ ap (λ (xs : List ResolvedNode). count_run xs []) (take_all i ns le) in
    ap count_top r

pub counts_none : (ns : List ResolvedNode) (i : ℕ) (stack : List Count) → length ns ≤ i → reverse stack ≡ count_run (take i ns) [] → length stack ≡ 0 → record { parts = 1; longest = 0 } ≡ count_top (count_run ns [])
counts_none ns i stack le e g =
    let r : [] ≡ count_run ns [] = ap reverse (sym (nil_from_length stack g)) ∙ e ∙ ap (λ (xs : List ResolvedNode). count_run xs []) (take_all i ns le) in
    ap count_top r
