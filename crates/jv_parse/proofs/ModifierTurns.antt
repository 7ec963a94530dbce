-- Turns of the loop that reads modifiers.
use Rattle.std.proofs.Common.{◌≡◌, ℕ, List, [], ◌∷◌, ◌++◌, ap, sym, ◌∙◌, refl, append_assoc, Ok}
use Rattle.std.proofs.lemmas.List.{append-nil}
use Rattle.jv_grammar.specs.declared.terminal.Terminal.{Terminal}
use Rattle.jv_grammar.specs.Reader.{Reads}
use Rattle.jv_grammar.specs.DeclReader.{mods_of}
use Rattle.jv_parse.specs.DeclView.{modifiers_of}

abbrev pub some_words : List Terminal → List ℕ → Reads (List ℕ)
some_words ys ks = Ok (ks, ys)

-- modifiers that are read already, in front of those that are read behind them
abbrev pub words_onto : List ℕ → List ℕ × List Terminal → Reads (List ℕ)
words_onto front r = Ok (front ++ r.0, r.1)

pub modifiers_begin : (ks : List ℕ) (xs : List Terminal) → ks ≡ [] → words_onto ks (mods_of xs) ≡ modifiers_of xs
modifiers_begin ks xs none = rw none refl

pub modifiers_next : (ks : List ℕ) (k : ℕ) (xs ys : List Terminal) → mods_of xs ≡ (k ∷ (mods_of ys).0, (mods_of ys).1)
    → words_onto (ks ++ k ∷ []) (mods_of ys) ≡ words_onto ks (mods_of xs)
modifiers_next ks k xs ys h = ap (some_words (mods_of ys).1) (append_assoc ks (k ∷ []) (mods_of ys).0) ∙ ap (words_onto ks) (sym h)

pub modifiers_done : (ks : List ℕ) (xs : List Terminal) → mods_of xs ≡ ([], xs) → words_onto ks (mods_of xs) ≡ some_words xs ks
modifiers_done ks xs h = ap (words_onto ks) h ∙ ap (some_words xs) (append-nil ks)
