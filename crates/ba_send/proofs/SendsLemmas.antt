-- Pieces that are sent have these words, one behind another.
use Rattle.std.proofs.Common.{◌≡◌, ℕ, Bool, true, false, cond, ◌&&◌, ℤ, List, [], ◌∷◌, ◌++◌, codes, Option, Some, None, refl, sym, ap, subst, ◌∙◌, append_assoc, append-nil}
use Rattle.std.specs.List.{flat_map}
use Rattle.std.proofs.lemmas.Grind.{flat_map-append}
use Rattle.ba_grammar.specs.Front.{begins, is_sign}
use Rattle.ba_lex.specs.Word.{is_word}
use Rattle.ba_lex.specs.declared.token.Lexeme.{Lexeme}
use Rattle.ba_lex.specs.declared.token.Lexeme.TheVariants as lexemes
use Rattle.ba_lex.specs.declared.token.Sign.{Sign}
use Rattle.ba_lex.specs.declared.token.Sign.TheVariants.{Dot}
use Rattle.ba_sql_print.proofs.SpellsLemmas.{Stands}
use Rattle.ba_sql_print.proofs.TokenLemmas.{Breaks}
use Rattle.ba_target.specs.declared.target.Database.{Database}
use Rattle.ba_target.specs.declared.target.Database.TheVariants.{PostgreSql, Sqlite, MySql}
use Rattle.ba_send.specs.ReadBack.{form_said, is_name, names_read, texts_read, without_namespace}
use Rattle.ba_send.specs.ReadBack.Form.{plain}
use Rattle.ba_send.specs.Sent.{Piece, lexeme_text, piece_text, pieces_text}
use Rattle.ba_send.proofs.GrowLemmas.{text_append, text_none, text_one}
use Rattle.ba_send.proofs.LexLemmas.{Says, says_append, says_blank, says_nothing, says_token}

-- ---- what a database reads

-- no dot begins the words
abbrev pub NoDot : List Lexeme → Type 0
NoDot xs = begins (is_sign Dot) xs ≡ false

-- of the words xs it reads the words ws: first the texts, then the names
pub record Reads (d : Database) (o : Option (List ℕ)) (xs ws : List Lexeme) : Type 0 where
  pub mid : List Lexeme
  pub texts : (rest : List Lexeme) → texts_read d plain (xs ++ rest) ≡ mid ++ texts_read d plain rest
  pub names : (rest : List Lexeme) → NoDot rest → names_read o (mid ++ rest) ≡ ws ++ names_read o rest
  pub starts : (rest : List Lexeme) → NoDot rest → NoDot (mid ++ rest)

pub reads_nothing : (d : Database) (o : Option (List ℕ)) → Reads d o [] []
reads_nothing d o = record { mid = []; texts = λ rest. refl; names = λ rest h. refl; starts = λ rest h. h }

pub reads_append : (d : Database) (o : Option (List ℕ)) (xs ys ws vs : List Lexeme) → Reads d o xs ws → Reads d o ys vs → Reads d o (xs ++ ys) (ws ++ vs)
reads_append d o xs ys ws vs h k =
    record {
      mid = h.mid ++ k.mid;
      texts = λ rest. ap (texts_read d plain) (append_assoc xs ys rest) ∙ h.texts (ys ++ rest) ∙ ap (λ (zs : List Lexeme). h.mid ++ zs) (k.texts rest)
          ∙ sym (append_assoc h.mid k.mid (texts_read d plain rest));
      names = λ rest no. ap (names_read o) (append_assoc h.mid k.mid rest) ∙ h.names (k.mid ++ rest) (k.starts rest no)
          ∙ ap (λ (zs : List Lexeme). ws ++ zs) (k.names rest no) ∙ sym (append_assoc ws vs (names_read o rest));
      starts = λ rest no. subst NoDot (sym (append_assoc h.mid k.mid rest)) (h.starts (k.mid ++ rest) (k.starts rest no));
    }

-- all of them
pub reads_all : (d : Database) (o : Option (List ℕ)) (xs ws : List Lexeme) → Reads d o xs ws → names_read o (texts_read d plain xs) ≡ ws
unfolding texts_read without_namespace
reads_all d o xs ws h =
    ap (names_read o) (ap (texts_read d plain) (sym (append-nil xs)) ∙ h.texts []) ∙ h.names [] refl
    ∙ ap (λ (zs : List Lexeme). ws ++ zs) (none o) ∙ append-nil ws
  where
    none : (o : Option (List ℕ)) → names_read o [] ≡ []
    none None = refl
    none (Some called) = refl

-- ---- one word

-- it says no form, and is no dot
pub record IsPlain (x : Lexeme) : Type 0 where
  pub no_form : (d : Database) (rest : List Lexeme) → form_said d x rest ≡ None
  pub no_dot : is_sign Dot x ≡ false

pub plain_word : (w : List ℕ) → is_word w (codes "E") ≡ false → is_word w (codes "X") ≡ false → is_word w (codes "_utf8mb4") ≡ false → IsPlain (lexemes.Word w)
unfolding form_said
plain_word w e x u = record { no_form = none; no_dot = refl }
  where
    none : (d : Database) (rest : List Lexeme) → form_said d (lexemes.Word w) rest ≡ None
    none PostgreSql rest = rw e refl
    none Sqlite rest = refl
    none MySql rest = rw (x, u) refl

pub plain_quoted : (n : List ℕ) → IsPlain (lexemes.Quoted n)
unfolding form_said
plain_quoted n = record { no_form = none; no_dot = refl }
  where
    none : (d : Database) (rest : List Lexeme) → form_said d (lexemes.Quoted n) rest ≡ None
    none PostgreSql rest = refl
    none Sqlite rest = refl
    none MySql rest = refl

no_form_text : (d : Database) (t : List ℕ) (rest : List Lexeme) → form_said d (lexemes.Text t) rest ≡ None
unfolding form_said
no_form_text PostgreSql t rest = refl
no_form_text Sqlite t rest = refl
no_form_text MySql t rest = refl

pub plain_text : (t : List ℕ) → IsPlain (lexemes.Text t)
plain_text t = record { no_form = λ d rest. no_form_text d t rest; no_dot = refl }

pub plain_number : (n : ℤ) → IsPlain (lexemes.Number n)
unfolding form_said
plain_number n = record { no_form = none; no_dot = refl }
  where
    none : (d : Database) (rest : List Lexeme) → form_said d (lexemes.Number n) rest ≡ None
    none PostgreSql rest = refl
    none Sqlite rest = refl
    none MySql rest = refl

pub no_form_sign : (d : Database) (s : Sign) (rest : List Lexeme) → form_said d (lexemes.Sign s) rest ≡ None
unfolding form_said
no_form_sign PostgreSql s rest = refl
no_form_sign Sqlite s rest = refl
no_form_sign MySql s rest = refl

pub plain_sign : (s : Sign) → is_sign Dot (lexemes.Sign s) ≡ false → IsPlain (lexemes.Sign s)
plain_sign s h = record { no_form = λ d rest. no_form_sign d s rest; no_dot = h }

pub texts_kept : (d : Database) (x : Lexeme) (rest : List Lexeme) → form_said d x rest ≡ None → texts_read d plain (x ∷ rest) ≡ x ∷ texts_read d plain rest
unfolding texts_read
texts_kept d x rest h = rw h refl

pub name_kept : (o : Option (List ℕ)) (x : Lexeme) (rest : List Lexeme) → NoDot rest → names_read o (x ∷ rest) ≡ x ∷ names_read o rest
unfolding without_namespace
name_kept None x rest h = refl
name_kept (Some called) x rest h = by (is_name called x)
  where
    by : (k : Bool) → cond (k && begins (is_sign Dot) rest) (without_namespace called true rest) (x ∷ without_namespace called false rest)
        ≡ x ∷ without_namespace called false rest
    by true = rw h refl
    by false = refl

pub reads_one : (d : Database) (o : Option (List ℕ)) (x : Lexeme) → IsPlain x → Reads d o (x ∷ []) (x ∷ [])
reads_one d o x h = record {
  mid = x ∷ [];
  texts = λ rest. texts_kept d x rest (h.no_form d rest);
  names = λ rest no. name_kept o x rest no;
  starts = λ rest no. h.no_dot;
}

-- ---- pieces

abbrev pub flat : List Piece → List Lexeme
flat ps = flat_map (λ p. p) ps

pub record Sends (d : Database) (o : Option (List ℕ)) (ps : List Piece) (ws : List Lexeme) : Type 0 where
  pub says : Says (pieces_text d ps) (flat ps)
  pub reads : Reads d o (flat ps) ws

pub breaks : (d : Database) (ps : List Piece) (rest : List ℕ) → Breaks rest → Breaks (pieces_text d ps ++ rest)
unfolding pieces_text
breaks d [] rest h = h
breaks d (p ∷ ps) rest h = refl

pub nothing : (d : Database) (o : Option (List ℕ)) → Sends d o [] []
nothing d o = record { says = subst (λ (t : List ℕ). Says t []) (sym (text_none d)) says_nothing; reads = reads_nothing d o }

pub append : (d : Database) (o : Option (List ℕ)) (ps qs : List Piece) (ws vs : List Lexeme) → Sends d o ps ws → Sends d o qs vs → Sends d o (ps ++ qs) (ws ++ vs)
append d o ps qs ws vs h k =
    let all : flat (ps ++ qs) ≡ flat ps ++ flat qs = flat_map-append (λ p. p) ps qs in
    record {
      says =
          subst (λ (t : List ℕ). Says t (flat (ps ++ qs))) (sym (text_append d ps qs))
          (subst (Says (pieces_text d ps ++ pieces_text d qs)) (sym all)
          (says_append (pieces_text d ps) (pieces_text d qs) (flat ps) (flat qs) h.says k.says (breaks d qs)));
      reads = subst (λ (xs : List Lexeme). Reads d o xs (ws ++ vs)) (sym all) (reads_append d o (flat ps) (flat qs) ws vs h.reads k.reads);
    }

-- a piece whose text and words are so
pub piece : (d : Database) (o : Option (List ℕ)) (p : Piece) (text : List ℕ) (ws : List Lexeme) → piece_text d p ≡ text → Says text p → Reads d o p ws
    → Sends d o (p ∷ []) ws
piece d o p text ws is says reads =
    let all : flat (p ∷ []) ≡ p = append-nil p in
    record {
      says =
          subst (λ (t : List ℕ). Says t (flat (p ∷ []))) (sym (text_one d p ∙ ap (λ (t : List ℕ). 32 ∷ t) is))
          (subst (Says (32 ∷ text)) (sym all) (says_blank text p says));
      reads = subst (λ (xs : List Lexeme). Reads d o xs ws) (sym all) reads;
    }

-- of one word
pub one : (d : Database) (o : Option (List ℕ)) (x : Lexeme) → Stands (lexeme_text d x) x → IsPlain x → Sends d o ((x ∷ []) ∷ []) (x ∷ [])
one d o x stands is_plain =
    piece d o (x ∷ []) (lexeme_text d x) (x ∷ []) (append-nil (lexeme_text d x)) (says_token _ x stands) (reads_one d o x is_plain)

-- two pieces
pub more_says : (d : Database) (p q : Piece) (t u : List ℕ) → piece_text d p ≡ t → piece_text d q ≡ u → Says t p → Says u q
    → Says (pieces_text d (p ∷ q ∷ [])) (flat (p ∷ q ∷ []))
more_says d p q t u e f h k =
    let texts : pieces_text d (p ∷ q ∷ []) ≡ (32 ∷ t) ++ (32 ∷ u) =
    text_append d (p ∷ []) (q ∷ []) ∙ ap (λ (v : List ℕ). v ++ pieces_text d (q ∷ [])) (text_one d p ∙ ap (λ (v : List ℕ). 32 ∷ v) e)
    ∙ ap (λ (v : List ℕ). (32 ∷ t) ++ v) (text_one d q ∙ ap (λ (v : List ℕ). 32 ∷ v) f) in
    let all : flat (p ∷ q ∷ []) ≡ p ++ q = ap (λ (xs : List Lexeme). p ++ xs) (append-nil q) in
    subst (λ (v : List ℕ). Says v (flat (p ∷ q ∷ []))) (sym texts)
    (subst (Says ((32 ∷ t) ++ (32 ∷ u))) (sym all) (says_append (32 ∷ t) (32 ∷ u) p q (says_blank t p h) (says_blank u q k) (λ rest ends. refl)))
