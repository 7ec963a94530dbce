-- The words of a command line.
use Rattle.std.proofs.Common.{◌≡◌, ℕ, ◌<◌, ◌≤◌, ◌^◌, codes, ap, List, [], ◌∷◌, length, map, get_or, Bor, Option, None, Some, IfSome, MatchOption, refl, sym, ◌∙◌, subst, arith, nat_eq, Decides}
use lib.Pointwise.{pointwise}
use Rattle.std.proofs.lemmas.Bool.Decides.{Decides-eqb}
use Rattle.std.proofs.lemmas.Fmt.{decimal_injective}
use Rattle.std.proofs.lemmas.Slice.Eq.{slice_eq-Decides}
use Rattle.sc_app.specs.declared.command.Command.{Command}
use Rattle.sc_app.specs.declared.command.Command.TheVariants.{Check, Answers, Graph, Gen}
use Rattle.sc_app.specs.declared.asked.Asked.{Asked}
use Rattle.sc_app.specs.Command.{Asks, IsCommand, IsCommandOf, IsWorkers}
use Rattle.sc_app.specs.Gathered.{MakesFew}

-- two texts are equal exactly where they are element by element
pub same_text : (a b : List ℕ) → Decides (pointwise nat_eq a b) (a ≡ b)
same_text a b = slice_eq-Decides Decides-eqb a b (pointwise nat_eq a b) refl

-- the texts of two words, and of three
pub two_words : (words : List (Bor (List ℕ))) (d : Bor (List ℕ)) (a b : List ℕ) → 2 ≤ length words → length words < 3 → a ≡ (get_or words 0 d).now → b ≡ (get_or words 1 d).now → map (λ w. w.now) words ≡ a ∷ b ∷ []
two_words [] d a b least most e f = absurd (omega arith)
two_words (v ∷ []) d a b least most e f = absurd (omega arith)
two_words (v ∷ w ∷ []) d a b least most e f = λ i. sym e i ∷ sym f i ∷ []
two_words (v ∷ w ∷ u ∷ rest) d a b least most e f = absurd (omega arith)

pub three_words : (words : List (Bor (List ℕ))) (d : Bor (List ℕ)) (a b c : List ℕ) → 3 ≤ length words → length words < 4 → a ≡ (get_or words 0 d).now → b ≡ (get_or words 1 d).now → c ≡ (get_or words 2 d).now → map (λ w. w.now) words ≡ a ∷ b ∷ c ∷ []
three_words [] d a b c least most e f g = absurd (omega arith)
three_words (u ∷ []) d a b c least most e f g = absurd (omega arith)
three_words (u ∷ v ∷ []) d a b c least most e f g = absurd (omega arith)
three_words (u ∷ v ∷ w ∷ []) d a b c least most e f g = λ i. sym e i ∷ sym f i ∷ sym g i ∷ []
three_words (u ∷ v ∷ w ∷ x ∷ rest) d a b c least most e f g = absurd (omega arith)

-- ---- what the words ask for

command_moves : (c : Command) (a b first second : List ℕ) → a ≡ first → b ≡ second → IsCommandOf c first second → IsCommandOf c a b
command_moves c a b first second e f is = subst (λ (z : List ℕ). IsCommandOf c z b) (sym e) (subst (IsCommandOf c first) (sym f) is)

module _ (words : List (List ℕ)) (command operand : List ℕ) (two : words ≡ command ∷ operand ∷ []) where
  plain_is : (c : Command) (workers : Option ℕ) → Asks words c workers → IsCommandOf c command operand
  plain_is c None (first, last, same, is) =
      let parts : command ∷ operand ∷ [] ≡ first ∷ last ∷ [] = sym two ∙ same in
      command_moves c command operand first last (cc) (cc) is
  plain_is c (Some n) (first, word, last, same, is, asks) =
      let parts : command ∷ operand ∷ [] ≡ first ∷ word ∷ last ∷ [] = sym two ∙ same in
      absurd (cc)

  pub asked_plain : (r : Option Asked) → MatchOption r ((c : Command) → IsCommandOf c command operand → ⊥) (λ a. (a.workers ≡ None) × IsCommandOf a.command command operand) → MatchOption r (IsCommand words → ⊥) (λ a. Asks words a.command a.workers)
  asked_plain None none = λ is. none is.0 (plain_is is.0 is.1 is.2)
  asked_plain (Some a) is = subst (Asks words a.command) (sym is.0) (command, operand, two, is.1)

module _ (words : List (List ℕ)) (command option operand : List ℕ) (three : words ≡ command ∷ option ∷ operand ∷ []) where
  with_is : (c : Command) (workers : Option ℕ) → Asks words c workers → (n : ℕ) × IsCommandOf c command operand × IsWorkers option n
  with_is c None (first, last, same, is) =
      let parts : command ∷ option ∷ operand ∷ [] ≡ first ∷ last ∷ [] = sym three ∙ same in
      absurd (cc)
  with_is c (Some n) (first, word, last, same, is, asks) =
      let parts : command ∷ option ∷ operand ∷ [] ≡ first ∷ word ∷ last ∷ [] = sym three ∙ same in
      let two : option ≡ word = cc in
      (n, command_moves c command operand first last (cc) (cc) is, subst (λ (z : List ℕ). IsWorkers z n) (sym two) asks)

  pub asked_with : (r : Option Asked) → MatchOption r ((c : Command) (n : ℕ) → IsCommandOf c command operand → IsWorkers option n → ⊥) (λ a. (n : ℕ) × (a.workers ≡ Some n) × IsCommandOf a.command command operand × IsWorkers option n)
      → MatchOption r (IsCommand words → ⊥) (λ a. Asks words a.command a.workers)
  asked_with None none = λ is. let found = with_is is.0 is.1 is.2 in none is.0 found.0 found.1 found.2
  asked_with (Some a) is = subst (Asks words a.command) (sym is.1) (command, option, operand, three, is.2, is.3)

-- some number of workers is at least one
pub some_worker : (words : List (List ℕ)) (c : Command) (workers : Option ℕ) → Asks words c workers → IfSome workers (λ n. 1 ≤ n)
some_worker words c None asks = tt
some_worker words c (Some n) (command, option, operand, same, is, asks) = asks.2.some

-- ---- the words ask for one command

letter_of : (word c d : List ℕ) (i : ℕ) → word ≡ c → word ≡ d → get_or c i 0 ≡ get_or d i 0
letter_of word c d i e f = ap (λ (xs : List ℕ). get_or xs i 0) (sym e ∙ f)

command_once : (c d : Command) (word operand : List ℕ) → IsCommandOf c word operand → IsCommandOf d word operand → c ≡ d
command_once Check Check word operand x y = refl
command_once Check Answers word operand x y = let e : 99 ≡ 97 = letter_of word (codes "check") (codes "answers") 0 x.0 y.0 in absurd (omega (arith, e))
command_once Check Graph word operand x y = let e : 99 ≡ 103 = letter_of word (codes "check") (codes "graph") 0 x.0 y.0 in absurd (omega (arith, e))
command_once Check (Gen m) word operand x y = let e : 99 ≡ 103 = letter_of word (codes "check") (codes "gen") 0 x.0 y.0 in absurd (omega (arith, e))
command_once Answers Check word operand x y = let e : 97 ≡ 99 = letter_of word (codes "answers") (codes "check") 0 x.0 y.0 in absurd (omega (arith, e))
command_once Answers Answers word operand x y = refl
command_once Answers Graph word operand x y = let e : 97 ≡ 103 = letter_of word (codes "answers") (codes "graph") 0 x.0 y.0 in absurd (omega (arith, e))
command_once Answers (Gen m) word operand x y = let e : 97 ≡ 103 = letter_of word (codes "answers") (codes "gen") 0 x.0 y.0 in absurd (omega (arith, e))
command_once Graph Check word operand x y = let e : 103 ≡ 99 = letter_of word (codes "graph") (codes "check") 0 x.0 y.0 in absurd (omega (arith, e))
command_once Graph Answers word operand x y = let e : 103 ≡ 97 = letter_of word (codes "graph") (codes "answers") 0 x.0 y.0 in absurd (omega (arith, e))
command_once Graph Graph word operand x y = refl
command_once Graph (Gen m) word operand x y = let e : 114 ≡ 101 = letter_of word (codes "graph") (codes "gen") 1 x.0 y.0 in absurd (omega (arith, e))
command_once (Gen n) Check word operand x y = let e : 103 ≡ 99 = letter_of word (codes "gen") (codes "check") 0 x.0 y.0 in absurd (omega (arith, e))
command_once (Gen n) Answers word operand x y = let e : 103 ≡ 97 = letter_of word (codes "gen") (codes "answers") 0 x.0 y.0 in absurd (omega (arith, e))
command_once (Gen n) Graph word operand x y = let e : 101 ≡ 114 = letter_of word (codes "gen") (codes "graph") 1 x.0 y.0 in absurd (omega (arith, e))
command_once (Gen n) (Gen m) word operand x y =
    let same : n ≡ m = decimal_injective n m (few_of n (x.1).few) (few_of m (y.1).few) (sym (x.1).writes ∙ (y.1).writes) in
    ap (λ (k : ℕ). Gen k) same
  where
    few_of : (k : ℕ) → k ≤ 1000 → k < 2 ^ 64
    few_of k few = omega (arith, few)

pub asked_once : (words : List (List ℕ)) (c d : Command) (some more : Option ℕ) → Asks words c some → Asks words d more → c ≡ d
asked_once words c d None more (word, operand, two, is) also = command_once c d word operand is (plain_is words word operand two d more also)
asked_once words c d (Some n) more (word, option, operand, three, is, asks) also = command_once c d word operand is (with_is words word option operand three d more also).1

-- a project that is asked for has few classes
pub makes_few : (words : List (List ℕ)) (c : Command) (workers : Option ℕ) → Asks words c workers → MakesFew c
makes_few words c workers asks = few_in c (asked_of words c workers asks)
  where
    asked_of : (words : List (List ℕ)) (c : Command) (workers : Option ℕ) → Asks words c workers → (word : List ℕ) × (operand : List ℕ) × IsCommandOf c word operand
    asked_of words c None (word, operand, two, is) = (word, operand, is)
    asked_of words c (Some n) (word, option, operand, three, is, asks) = (word, operand, is)

    few_in : (c : Command) → (word : List ℕ) × (operand : List ℕ) × IsCommandOf c word operand → MakesFew c
    few_in Check is = tt
    few_in Answers is = tt
    few_in Graph is = tt
    few_in (Gen n) is = is.2.1.few
