-- A sent text reads as its query.
use Rattle.std.proofs.Common.{◌≡◌, ◌≢◌, ℕ, suc, ◌+◌, ◌≤◌, Bool, true, nat_le, List, [], ◌∷◌, ◌++◌, length, map, codes, Option, Some, None, Ok, refl, sym, ap, subst, ◌∙◌, arith, append-nil, get_or}
use Rattle.std.specs.List.{All, IsDistinct, flat_map, join_by}
use Rattle.std.proofs.lemmas.Bool.{and_parts, le-ltb}
use Rattle.ba_lex.specs.Spelling.{are_name_bytes}
use Rattle.ba_lex.specs.Tokens.{lexemes_of, tokens_from, tokens_of}
use Rattle.ba_lex.specs.Word.{is_word}
use Rattle.ba_lex.specs.declared.token.Lexeme.{Lexeme}
use Rattle.ba_lex.specs.declared.token.Lexeme.TheVariants as lexemes
use Rattle.ba_lex.specs.declared.token.Token.{Token}
use Rattle.ba_model.specs.Fit.{ContextFits, IsQuery}
use Rattle.ba_model.specs.SchemaFaults.{AreDistinct, AreTables}
use Rattle.ba_model.specs.declared.policy.Context.{Context}
use Rattle.ba_model.specs.declared.query.Part.{Part}
use Rattle.ba_model.specs.declared.query.Query.{Query}
use Rattle.ba_model.specs.declared.schema.Kind.{Kind}
use Rattle.ba_model.specs.declared.schema.Schema.{Schema}
use Rattle.ba_sql_query.specs.Reads.{ReadsWords}
use Rattle.ba_sql_print.specs.Spelling.{CanBeSpelled, PartInRange}
use Rattle.ba_sql_print.specs.Words.{joined_words, keyword}
use Rattle.ba_sql_print.proofs.MeansLemmas.{query_means}
use Rattle.ba_sql_print.proofs.PlaceLemmas.{checked_apart}
use Rattle.ba_sql_print.proofs.SpellsLemmas.{Lexed}
use Rattle.ba_sql_print.proofs.StandsLemmas.{word_stands}
use Rattle.ba_sql_print.proofs.TokenLemmas.{Breaks}
use Rattle.ba_sql_print.proofs.WritableLemmas.{part_writes}
use Rattle.ba_sql_print.proofs.WrittenLemmas.{CanReadPart, written_query}
use Rattle.ba_target.specs.Names.{Serves, ServesNamespace, can_name, most_bytes}
use Rattle.ba_target.specs.declared.target.Database.{Database}
use Rattle.ba_target.specs.declared.target.Target.{Target}
use Rattle.ba_send.specs.ReadBack.{ReadsSent, words_in}
use Rattle.ba_send.specs.Sent.{Piece, closed, following, has_several, joined, most_sent_bytes, part_pieces, piece_text, pieces_text, query_pieces, selected_pieces, sent_bytes, word}
use Rattle.ba_send.proofs.ClosedLemmas.{closed_is_query}
use Rattle.ba_send.proofs.LexLemmas.{lexed_nothing, says_token}
use Rattle.ba_send.proofs.ScanLemmas.{query_supported}
use Rattle.ba_send.proofs.SendsLemmas.{Reads, Sends, append, breaks, flat, plain_word, reads_all, reads_append, reads_one}
use Rattle.ba_send.proofs.TreeLemmas.{query_is}
use Rattle.ba_send.proofs.UnitLemmas.{CanQualify, next_sends, select_words, selected_sends, selected_words, sent_words}

-- ---- the parts can be read

named : (target : Target) (name : List ℕ) → can_name target.database name ≡ true → are_name_bytes name ≡ true
named target name h = (and_parts (are_name_bytes name) (nat_le (length name) (most_bytes target.database)) h).0

spelled : (target : Target) (s : Schema) → Serves target s → All CanBeSpelled s.tables
spelled target s h k d lt = record {
  name = named target (get_or s.tables k d).name (h.tables k d lt).name;
  columns = λ j c less. named target (get_or (get_or s.tables k d).columns j c).name ((h.tables k d lt).columns j c less);
}

qualifies : (target : Target) (o : Option (List ℕ)) → ServesNamespace target o → CanQualify o
qualifies target None h = tt
qualifies target (Some name) h = named target name h

parts_read : (target : Target) (s : Schema) (q : Query) → Serves target s → IsQuery s [] [] q → All PartInRange q.parts → All (CanReadPart s []) q.parts
parts_read target s q serves h range k d lt = record {
  writes = part_writes s [] h.fits.kinds _ (spelled target s serves) (λ j p less. absurd (omega (arith, less))) (h.fits.parts k d lt) (h.within k d lt) (range k d lt);
  kinds = h.fits.kinds;
  some_kind = h.fits.some_kind;
  fits = h.fits.parts k d lt;
}

-- ---- the text's words

record HasSent (target : Target) (text : List ℕ) (ws : List Lexeme) : Type 0 where
  tokens : List Token
  read : tokens_from text 0 0 ≡ Ok tokens
  say : words_in target (lexemes_of tokens) ≡ ws

-- a first word, and pieces behind it
first_lexed : (d : Database) (o : Option (List ℕ)) (ps : List Piece) (ws : List Lexeme) → Sends d o ps ws
    → Lexed (codes "SELECT" ++ pieces_text d ps) 0 (lexemes.Word (codes "SELECT") ∷ flat ps)
first_lexed d o ps ws h =
    let text : List ℕ = pieces_text d ps in
    let behind : Lexed (text ++ []) 6 (flat ps ++ []) = h.says.says [] 6 [] tt (lexed_nothing (6 + length text)) in
    let whole : Lexed text 6 (flat ps) =
    subst (λ (t : List ℕ). Lexed t 6 (flat ps)) (append-nil text) (subst (Lexed (text ++ []) 6) (append-nil (flat ps)) behind) in
    (says_token (codes "SELECT") (lexemes.Word (codes "SELECT")) (word_stands (codes "SELECT") refl)).says text 0 (flat ps)
    (subst Breaks (append-nil text) (breaks d ps [] tt)) whole

first_read : (d : Database) (o : Option (List ℕ)) (ps : List Piece) (ws : List Lexeme) → Sends d o ps ws
    → Reads d o (lexemes.Word (codes "SELECT") ∷ flat ps) (keyword (codes "SELECT") ∷ ws)
unfolding is_word
first_read d o ps ws h =
    reads_append d o (lexemes.Word (codes "SELECT") ∷ []) (flat ps) (keyword (codes "SELECT") ∷ []) ws
    (reads_one d o (lexemes.Word (codes "SELECT")) (plain_word (codes "SELECT") refl refl refl)) h.reads

first_sent : (target : Target) (ps : List Piece) (ws : List Lexeme) → Sends target.database target.namespace ps ws
    → HasSent target (codes "SELECT" ++ pieces_text target.database ps) (keyword (codes "SELECT") ∷ ws)
first_sent target ps ws h =
    let lexed = first_lexed target.database target.namespace ps ws h in
    record {
      tokens = lexed.tokens;
      read = lexed.read;
      say = ap (words_in target) lexed.say
          ∙ reads_all target.database target.namespace (lexemes.Word (codes "SELECT") ∷ flat ps) (keyword (codes "SELECT") ∷ ws)
          (first_read target.database target.namespace ps ws h);
    }

-- what the parts are printed as
abbrev pub parts_text : Target → Schema → Bool → List Part → List ℕ
parts_text target s several parts =
    join_by (piece_text target.database) (codes " ") (joined (word (codes "UNION")) (map (part_pieces target s several) parts))

pub text_is : (target : Target) (s : Schema) (several : Bool) (part : Part) (parts : List Part)
    → parts_text target s several (part ∷ parts)
    ≡ codes "SELECT" ++ pieces_text target.database
    (selected_pieces target s several part ++ following (word (codes "UNION")) (map (part_pieces target s several) parts))
unfolding joined pieces_text
text_is target s several part parts = refl

parts_sent : (target : Target) (s : Schema) (several : Bool) (parts : List Part) → parts ≢ [] → CanQualify target.namespace → All (CanReadPart s []) parts
    → HasSent target (parts_text target s several parts) (joined_words (keyword (codes "UNION")) (map (select_words s several) parts))
parts_sent target s several [] some can h = absurd (some refl)
parts_sent target s several (part ∷ parts) some can h =
    let ps : List Piece = selected_pieces target s several part ++ following (word (codes "UNION")) (map (part_pieces target s several) parts) in
    let ws : List Lexeme = selected_words s several part ++ flat_map (λ w. (keyword (codes "UNION") ∷ []) ++ w) (map (select_words s several) parts) in
    let sends : Sends target.database target.namespace ps ws =
    append target.database target.namespace _ _ _ _ (selected_sends target s several part can (h 0 part (omega arith)))
    (next_sends target s several parts can (λ k d lt. h (suc k) d (omega (arith, lt)))) in
    subst (λ (t : List ℕ). HasSent target t (keyword (codes "SELECT") ∷ ws)) (sym (text_is target s several part parts)) (first_sent target ps ws sends)

not_too_long : (bs : List ℕ) (ts : List Token) → length bs ≤ most_sent_bytes → tokens_from bs 0 0 ≡ Ok ts → tokens_of most_sent_bytes bs ≡ Ok ts
unfolding tokens_of
not_too_long bs ts le e = rw (le-ltb most_sent_bytes (length bs) le) e

no_names : AreDistinct []
unfolding IsDistinct
no_names = tt

closed_reads : (target : Target) (s : Schema) (q : Query) → AreTables s.tables → Serves target s → IsQuery s [] [] q → All PartInRange q.parts
    → length (parts_text target s (has_several q) q.parts) ≤ most_sent_bytes → ReadsSent target s (parts_text target s (has_several q) q.parts) q
unfolding sent_words
closed_reads target s q tables serves h range short =
    let parts = parts_read target s q serves h range in
    let sent = parts_sent target s (has_several q) q.parts h.fits.some_part (qualifies target target.namespace serves.namespace) parts in
    record {
      tokens = sent.tokens;
      are = not_too_long (parts_text target s (has_several q) q.parts) sent.tokens short sent.read;
      reads = subst (λ (ws : List Lexeme). ReadsWords s [] ws q) (sym sent.say) (record {
        supported = query_supported s q parts;
        written = written_query s [] q;
        form = query_is s q h.fits.some_part parts;
        means = query_means s [] q (checked_apart s.tables tables) no_names h range;
      });
    }

pub sent_is : (target : Target) (s : Schema) (c : Context) (q : Query)
    → sent_bytes target s c q ≡ parts_text target s (has_several (closed c q)) (closed c q).parts
unfolding sent_bytes query_pieces
sent_is target s c q = refl

pub sent_reads : (target : Target) (s : Schema) (params : List Kind) (c : Context) (q : Query) → AreTables s.tables → Serves target s → IsQuery s params [] q
    → ContextFits params c → All PartInRange (closed c q).parts → length (sent_bytes target s c q) ≤ most_sent_bytes
    → ReadsSent target s (sent_bytes target s c q) (closed c q)
unfolding sent_bytes query_pieces
sent_reads target s params c q tables serves h fits range short =
    closed_reads target s (closed c q) tables serves (closed_is_query s params c q h fits) range short
