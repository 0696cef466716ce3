-- Windows of which no two have one frame.
use Rattle.std.proofs.Common.{◌≡◌, ℕ, Bool, List, [], ◌∷◌, ◌++◌, map, bytes_eq, true, ap, ap₂, ◌∙◌}
use Rattle.std.proofs.lemmas.Cmp.{nat_list_eq_equiv}
use Rattle.std.proofs.lemmas.Slice.Eq.{bytes_eq-Decides}
use Rattle.ns_windows.specs.declared.window.Window.{Window}
use Rattle.ns_windows.specs.Windows.{is_of, AreOfFrames}
use Rattle.ns_windows.proofs.Passing.{NonePasses}
use Rattle.ns_windows.proofs.Pairs.{NoTwo-push, NoTwo-map}

bytes_sym : (a b : List ℕ) → bytes_eq a b ≡ bytes_eq b a
bytes_sym a b = nat_list_eq_equiv.symm a b

abbrev pub of_one_frame : Window → Window → Bool
of_one_frame w v = is_of w.frame v

-- what has a frame has that of another with it
pub frame-is : (frame : List ℕ) (w : Window) → is_of frame w ≡ true → w.frame ≡ frame
frame-is frame w is = (bytes_eq-Decides w.frame frame).0 is

pub frame-alike : (frame : List ℕ) (w v : Window) → is_of frame w ≡ true → of_one_frame w v ≡ is_of frame v
frame-alike frame w v is = ap (λ f. bytes_eq v.frame f) (frame-is frame w is)

pub of_frames-push : (ws : List Window) (w : Window) → AreOfFrames ws → NonePasses (is_of w.frame) ws → AreOfFrames (ws ++ w ∷ [])
of_frames-push ws w apart new = NoTwo-push of_one_frame (λ x y differs. bytes_sym x.frame y.frame ∙ differs) ws w apart new

pub of_frames-map : (f : Window → Window) → ((w : Window) → (f w).frame ≡ w.frame) → (ws : List Window) → AreOfFrames ws → AreOfFrames (map f ws)
of_frames-map f keeps ws apart = NoTwo-map of_one_frame f (λ w v. ap₂ (λ a b. bytes_eq a b) (keeps v) (keeps w)) ws apart
