-- Reading over an arena is reading over terms.
use Rattle.std.proofs.Common.{◌≡◌, ℕ, Bool, true, false, cond, List, [], ◌∷◌, ◌++◌, Some, None, Option, sym, refl, ap, ◌∙◌, subst}
use Rattle.std.specs.Option.{IfSome, option_and_then, option_map}
use Rattle.semantics.specs.declared.layout.Instruction.{Instruction}
use Rattle.semantics.specs.Terms.{Term}
use Rattle.semantics.specs.Showing as S
use Rattle.reading.specs.declared.reader.Tree.{Tree}
use Rattle.reading.specs.declared.reader.Mark.{Mark}
use Rattle.semantics.specs.PartialReading.{alone, finished}
use Rattle.reading.specs.Reading.{attempt}
use Rattle.reading.specs.Arena.{term, InArena}
use Rattle.reading.specs.Workspace.{Workspace, workspace, blank, performed, run, is_end, sole, root}
use Rattle.reading.proofs.Following.{marks_of, terms_of, Sound, tries, Follows, step_follows}

-- END before the last instruction finishes nothing.
never_finished : (c : List Instruction) (l : Instruction) (ms : List S.Mark) (s : List Term) → finished None (c ++ l ∷ []) ms s ≡ None
never_finished [] l ms s = refl
never_finished (i ∷ c) l ms s = refl

-- The term at the root of what was read.
abbrev pub read_off : Instruction → Option Workspace → Option Term
read_off last None = None
read_off last (Some w) = option_map (term w.nodes) (root last w)

-- The only node left stands for the only term left.
sole-alone : (ns : List Tree) (s : List ℕ) (ms : List Mark) (h : ℕ) → let w = workspace ns s ms h in
    alone (marks_of w) (terms_of w) ≡ option_map (term ns) (sole s ms)
sole-alone ns [] ms h = refl
sole-alone ns (r ∷ []) [] h = refl
sole-alone ns (r ∷ []) (m ∷ ms) h = refl
sole-alone ns (r ∷ l ∷ s) ms h = refl

-- The last instruction.
at_last : (k : ℕ) (i : Instruction) (w : Workspace) (b : Bool) (o : Option Workspace) → Follows k i w b o →
    tries (i ∷ []) k w ≡ option_map (term w.nodes) (cond b (sole w.stack w.marks) None)
at_last k i w true o f = f.1 [] ∙ sole-alone w.nodes w.stack w.marks w.scope
at_last k i w false None f = f []
at_last k i w false (Some w') f = f.1 []

-- Another instruction before: what follows it is read from where it leads.
one_more : (k : ℕ) (i : Instruction) (c : List Instruction) (last : Instruction) (w : Workspace) (b : Bool) (o : Option Workspace) → Follows k i w b o →
    ((w' : Workspace) → Sound k w' → tries (c ++ last ∷ []) k w' ≡ read_off last (run c w')) →
    tries (i ∷ (c ++ last ∷ [])) k w ≡ read_off last (option_and_then (λ w'. run c w') o)
one_more k i c last w true o f then =
    f.1 (c ++ last ∷ []) ∙ never_finished c last (marks_of w) (terms_of w) ∙ ap (λ o. read_off last (option_and_then (λ w'. run c w') o)) (sym f.0)
one_more k i c last w false None f then = f (c ++ last ∷ [])
one_more k i c last w false (Some w') f then = f.1 (c ++ last ∷ []) ∙ then w' f.0

-- Instructions one after the other, and a last one.
reads_on : (k : ℕ) (c : List Instruction) (last : Instruction) (w : Workspace) → Sound k w → tries (c ++ last ∷ []) k w ≡ read_off last (run c w)
reads_on k [] last w ok = at_last k last w (is_end last) (performed last w) (step_follows k last w.nodes w.stack w.marks w.scope ok)
reads_on k (i ∷ c) last w ok =
    one_more k i c last w (is_end i) (performed i w) (step_follows k i w.nodes w.stack w.marks w.scope ok) (λ w' ok'. reads_on k c last w' ok')

-- What follows an instruction in a sound workspace is sound.
then_sound : (k : ℕ) (i : Instruction) (w : Workspace) (b : Bool) (o : Option Workspace) (go : Workspace → Option Workspace) → Follows k i w b o →
    ((w' : Workspace) → Sound k w' → IfSome (go w') (Sound k)) → IfSome (option_and_then go o) (Sound k)
then_sound k i w true o go f then = rw f.0 tt
then_sound k i w false None go f then = tt
then_sound k i w false (Some w') go f then = then w' f.0

-- A sound workspace stays sound.
stays_sound : (k : ℕ) (c : List Instruction) (w : Workspace) → Sound k w → IfSome (run c w) (Sound k)
stays_sound k [] w ok = ok
stays_sound k (i ∷ c) w ok =
    then_sound k i w (is_end i) (performed i w) (λ w'. run c w') (step_follows k i w.nodes w.stack w.marks w.scope ok) (λ w' ok'. stays_sound k c w' ok')

-- A blank workspace is sound.
blank-sound : (k : ℕ) → Sound k (blank k)
blank-sound k = record { falls = tt; stack = tt; marks = tt; scope = refl }

-- The root of a sound workspace is in its arena.
sound-root : (k : ℕ) (b : Bool) (ns : List Tree) (s : List ℕ) (ms : List Mark) (h : ℕ) → Sound k (workspace ns s ms h) → InArena ns (cond b (sole s ms) None)
sound-root k true ns [] ms h ok = tt
sound-root k true ns (r ∷ []) [] h ok = (ok.falls, ok.stack.0)
sound-root k true ns (r ∷ []) (m ∷ ms) h ok = tt
sound-root k true ns (r ∷ l ∷ s) ms h ok = tt
sound-root k false ns s ms h ok = tt

-- The root of what was read from a blank one is in its arena.
pub root_in_arena : (k : ℕ) (front : List Instruction) (last : Instruction) (w : Workspace) → run front (blank k) ≡ Some w → InArena w.nodes (root last w)
root_in_arena k front last w e = sound-root k (is_end last) w.nodes w.stack w.marks w.scope (subst (λ o. IfSome o (Sound k)) e (stays_sound k front (blank k) (blank-sound k)))

-- A code is read by running what stands before its last instruction.
pub reads_whole : (code front : List Instruction) (last : Instruction) (k : ℕ) → code ≡ front ++ last ∷ [] → attempt code k [] [] ≡ read_off last (run front (blank k))
reads_whole code front last k e = ap (λ c. attempt c k [] []) e ∙ reads_on k front last (blank k) (blank-sound k)
