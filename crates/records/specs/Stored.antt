-- What a buffer of bytes holds after a text is written at its front: the text, and behind it what was there. Assumes nothing.
use Rattle.std.specs.Prelude.{ℕ, List, ◌++◌, length, drop}

unfoldable pub over : List ℕ → List ℕ → List ℕ
over text l = text ++ drop (length text) l
