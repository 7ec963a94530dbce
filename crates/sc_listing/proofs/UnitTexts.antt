-- Texts of units, one unit after another.
use Rattle.std.proofs.Common.{◌≡◌, ℕ, zero, suc, ◌+◌, ◌<◌, List, [], ◌∷◌, ◌++◌, length, map, take, get_or, refl, sym, ap, ◌∙◌, subst, append_assoc, append-nil, Bor, arith}
use Rattle.std.specs.List.{All}
use Rattle.std.proofs.lemmas.List.{get_or-map, take_more}
use Rattle.std.proofs.lemmas.List.Elements.{All-head, All-tail}
use Rattle.sg_base.specs.declared.scope.Scope.{Scope}
use Rattle.sg_unit.specs.Own.{own}
use Rattle.sc_listing.specs.Answers.{JavaEntry, AreAnswerLines, AreUnitTexts, unit_of, unit_text}
use Rattle.sc_listing.specs.ByUnit.{entries_at, own_entries}
use Rattle.sc_listing.specs.Titles.{ListedOf, title}
use Rattle.sc_listing.proofs.OwnEntries.{Held, entries_in, entries_are}

module _ (w : ListedOf) (mine : ℕ → List JavaEntry) where
  -- one unit more
  units_push : (ss : List Scope) (s : Scope) (units : List ℕ) (lines : List (List ℕ)) → AreUnitTexts w mine ss units → AreAnswerLines w (mine (unit_of w.layout s)) lines → AreUnitTexts w mine (ss ++ s ∷ []) (units ++ unit_text (title w s) lines)
  units_push [] s units lines texts more =
      (lines, [], more, refl, ap (λ (t : List ℕ). t ++ unit_text (title w s) lines) texts ∙ sym (append-nil (unit_text (title w s) lines)))
  units_push (r ∷ ss) s units lines texts more = (
    texts.0,
    texts.1 ++ unit_text (title w s) lines,
    texts.2,
    units_push ss s texts.1 lines texts.3 more,
    ap (λ (t : List ℕ). t ++ unit_text (title w s) lines) texts.4 ∙ append_assoc (unit_text (title w r) texts.0) texts.1 (unit_text (title w s) lines),
  )

  pub units_more : (ss : List Scope) (i : ℕ) (s : Scope) (units : List ℕ) (lines : List (List ℕ)) → i < length ss → s ≡ get_or ss i s → AreUnitTexts w mine (take i ss) units → AreAnswerLines w (mine (unit_of w.layout s)) lines → AreUnitTexts w mine (take (i + 1) ss) (units ++ unit_text (title w s) lines)
  units_more ss i s units lines within here texts more =
      let longer : take (i + 1) ss ≡ take i ss ++ s ∷ [] = take_more ss i s within ∙ ap (λ (x : Scope). take i ss ++ x ∷ []) (sym here) in
      subst (λ (ts : List Scope). AreUnitTexts w mine ts (units ++ unit_text (title w s) lines)) (sym longer) (units_push (take i ss) s units lines texts more)

-- the same entries give the same texts
pub units_same : (w : ListedOf) (mine other : ℕ → List JavaEntry) (P : Scope → Type 0) → ((s : Scope) → P s → mine (unit_of w.layout s) ≡ other (unit_of w.layout s)) → (ss : List Scope) (units : List ℕ) → All P ss → AreUnitTexts w mine ss units → AreUnitTexts w other ss units
units_same w mine other P same [] units each texts = texts
units_same w mine other P same (s ∷ ss) units each texts = (
  texts.0,
  texts.1,
  subst (λ (es : List JavaEntry). AreAnswerLines w es texts.0) (same s (All-head P s ss each)) texts.2,
  units_same w mine other P same ss texts.1 (All-tail P s ss each) texts.3,
  texts.4,
)

-- one unit more, by the list of its entries
pub unit_step : (w : ListedOf) (entries : List Held) (ss : List Scope) (i : ℕ) (s d : Scope) (u : ℕ) (v : Held) (mine : List (Bor JavaEntry)) (start old new : List ℕ) → i < length ss → s ≡ get_or ss i d → u ≡ unit_of w.layout s → All (λ r. unit_of w.layout r < length entries) ss → v ≡ get_or entries u v → mine ≡ v.items
    → ((units : List ℕ) × AreUnitTexts w (entries_at (map entries_in entries)) (take i ss) units × (old ≡ start ++ units))
    → ((lines : List (List ℕ)) × AreAnswerLines w (map (λ e. e.now) mine) lines × (new ≡ old ++ unit_text (title w s) lines))
    → (units : List ℕ) × AreUnitTexts w (entries_at (map entries_in entries)) (take (i + 1) ss) units × (new ≡ start ++ units)
unit_step w entries ss i s d u v mine start old new within here number each at items before added =
    let there : unit_of w.layout s < length entries = subst (λ (r : Scope). unit_of w.layout r < length entries) (sym here) (each i d within) in
    let inside : u < length entries = omega (arith, there, number) in
    let all : ℕ → List JavaEntry = entries_at (map entries_in entries) in
    let same : all u ≡ entries_in v = get_or-map entries_in entries u v [] inside ∙ ap entries_in (sym at) in
    let own_of : map (λ (e : Bor JavaEntry). e.now) mine ≡ all (unit_of w.layout s) = ap (map (λ (e : Bor JavaEntry). e.now)) items ∙ sym same ∙ ap all number in
    let found : s ≡ get_or ss i s = here ∙ any_default ss i d s within in (
      before.0 ++ unit_text (title w s) added.0,
      units_more w all ss i s before.0 added.0 within found before.1 (subst (λ (es : List JavaEntry). AreAnswerLines w es added.0) own_of added.1),
      added.2 ∙ ap (λ (t : List ℕ). t ++ unit_text (title w s) added.0) before.2 ∙ append_assoc start before.0 (unit_text (title w s) added.0),
    )
  where
    any_default : (xs : List Scope) (k : ℕ) (a b : Scope) → k < length xs → get_or xs k a ≡ get_or xs k b
    any_default [] k a b l = absurd (omega (arith, l))
    any_default (x ∷ xs) zero a b l = refl
    any_default (x ∷ xs) (suc k) a b l = any_default xs k a b (omega (arith, l))

-- the texts by the log
pub by_log : (w : ListedOf) (log : List JavaEntry) (count : ℕ) (entries : List Held) → map entries_in entries ≡ own_entries count log → (ss own_scopes : List Scope) (units : List ℕ) → ss ≡ own_scopes → All (λ s. unit_of w.layout s < count) own_scopes
    → AreUnitTexts w (entries_at (map entries_in entries)) ss units → AreUnitTexts w (λ u. own u log) own_scopes units
by_log w log count entries are ss own_scopes units same small texts =
    units_same w (entries_at (map entries_in entries)) (λ u. own u log) (λ s. unit_of w.layout s < count) (λ s l. entries_are entries_in entries count log are (unit_of w.layout s) l) own_scopes units small
    (subst (λ (ts : List Scope). AreUnitTexts w (entries_at (map entries_in entries)) ts units) same texts)

-- each of these units has a list
pub all_small : (w : ListedOf) (ss own_scopes : List Scope) (n count : ℕ) → ss ≡ own_scopes → n ≡ count → All (λ s. unit_of w.layout s < count) own_scopes → All (λ s. unit_of w.layout s < n) ss
all_small w ss own_scopes n count same many small = subst (λ (ts : List Scope). All (λ s. unit_of w.layout s < n) ts) (sym same) (subst (λ (m : ℕ). All (λ s. unit_of w.layout s < m) own_scopes) (sym many) small)

-- the whole text
pub joined : (b0 b1 b2 b3 out files types end : List ℕ) → b0 ≡ [] → b1 ≡ b0 ++ files → b2 ≡ b1 ++ types → b3 ≡ b2 ++ end → out ≡ b3 → out ≡ (files ++ types) ++ end
joined b0 b1 b2 b3 out files types end e0 e1 e2 e3 e4 = e4 ∙ e3 ∙ ap (λ (t : List ℕ). t ++ end) (e2 ∙ ap (λ (t : List ℕ). t ++ types) (e1 ∙ ap (λ (t : List ℕ). t ++ files) e0))
