-- The reader's loop, turn by turn.
use Rattle.std.proofs.Common.{◌≡◌, ℕ, ◌+◌, ◌<◌, ◌≤◌, ◌↔◌, true, false, IsTrue, List, [], ◌∷◌, ◌++◌, reverse, length, get_or, take, drop, Some, None, Option, sym, refl, ap, ◌∙◌, subst}
use Rattle.std.proofs.lemmas.List.{take-append-drop, take_more, take_all}
use Rattle.std.specs.Option.{option_and_then, option_map}
use Rattle.semantics.specs.declared.layout.Instruction.{Instruction}
use Rattle.semantics.specs.declared.layout.Instruction.TheVariants.{End}
use Rattle.reading.specs.declared.reader.Mark.{Mark}
use Rattle.reading.specs.Arena.{term, InArena}
use Rattle.reading.specs.Reading.{attempt}
use Rattle.reading.specs.Workspace.{Workspace, performed, run, blank, sole, root}
use Rattle.reading.proofs.Ends.{none_left}
use Rattle.reading.proofs.Reading.{read_off, reads_whole, root_in_arena}

-- To run two codes one after the other is to run the second from where the first leads.
run-append : (c d : List Instruction) (w : Workspace) → run (c ++ d) w ≡ option_and_then (run d) (run c w)
run-append [] d w = refl
run-append (i ∷ c) d w =
    elim (performed i w) as (λ o. option_and_then (run (c ++ d)) o ≡ option_and_then (run d) (option_and_then (run c) o)) [ None ↦ refl | Some w' ↦ run-append c d w' ]

-- One instruction more is run from where those before it lead.
pub turn : (xs : List Instruction) (n : ℕ) (start w : Workspace) → n < length xs → run (take n xs) start ≡ Some w → run (take (n + 1) xs) start ≡ performed (get_or xs n End) w
turn xs n start w h e =
    ap (λ c. run c start) (take_more xs n End h) ∙ run-append (take n xs) (get_or xs n End ∷ []) start ∙ ap (option_and_then (run (get_or xs n End ∷ []))) e
    ∙ elim (performed (get_or xs n End) w) as (λ o. option_and_then Some o ≡ o) [ None ↦ refl | Some w' ↦ refl ]

-- Where some of the instructions do not fit, all do not.
stuck : (xs : List Instruction) (n : ℕ) (start : Workspace) → run (take n xs) start ≡ None → run xs start ≡ None
stuck xs n start e =
    ap (λ c. run c start) (sym (take-append-drop n xs)) ∙ run-append (take n xs) (drop n xs) start ∙ ap (option_and_then (run (drop n xs))) e

-- Where something is open, no node is left alone.
nowhere : (s : List ℕ) (ms : List Mark) → (ms ≡ [] → IsTrue false) → sole s ms ≡ None
nowhere s [] h = let no : false ≡ true = h refl in cc
nowhere [] (m ∷ ms) h = refl
nowhere (r ∷ []) (m ∷ ms) h = refl
nowhere (r ∷ l ∷ s) (m ∷ ms) h = refl

pub open_not_sole : (s : List ℕ) (ms : List Mark) → (IsTrue false ↔ (ms ≡ [])) → sole s (reverse ms) ≡ None
open_not_sole s ms h = nowhere s (reverse ms) (λ e. h.1 (none_left ms e))

-- Where the front of a code does not fit, there is no term.
pub unread : (code front : List Instruction) (last : Instruction) (k n : ℕ) → code ≡ front ++ last ∷ [] → run (take n front) (blank k) ≡ None → attempt code k [] [] ≡ None
unread code front last k n cut e = reads_whole code front last k cut ∙ ap (read_off last) (stuck front n (blank k) e)

-- Where all of the front fits, the term is at the root that is left, and the root is in the arena.
pub read_out : (code front : List Instruction) (last : Instruction) (k n : ℕ) (w : Workspace) (o : Option ℕ) → code ≡ front ++ last ∷ [] → length front ≤ n →
    run (take n front) (blank k) ≡ Some w → o ≡ root last w → (attempt code k [] [] ≡ option_map (term w.nodes) o) × InArena w.nodes o
read_out code front last k n w o cut h e is =
    let all : run front (blank k) ≡ Some w = ap (λ c. run c (blank k)) (sym (take_all n front h)) ∙ e in (
      reads_whole code front last k cut ∙ ap (read_off last) all ∙ ap (option_map (term w.nodes)) (sym is),
      subst (InArena w.nodes) (sym is) (root_in_arena k front last w all),
    )
