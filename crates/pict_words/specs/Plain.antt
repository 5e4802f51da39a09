-- What the words and commands of the code stand for.
use Rattle.std.specs.Prelude.{ℕ, List, map}
use Rattle.std.specs.Borrow.{Bor}
use Rattle.pict_words.specs.Words as words
use Rattle.pict_words.specs.declared.words.Options.{Options}
use Rattle.pict_words.specs.declared.words.Command.{Command}
use Rattle.pict_words.specs.declared.words.Command.TheVariants.{Run, Trace, Check, Code, Load, Pick, Picked, Replay, Build, Exec, Sites}

-- borrowed texts as the texts themselves
abbrev pub texts_of : List (Bor (List ℕ)) → List (List ℕ)
texts_of borrowed = map (λ text. text.now) borrowed

abbrev pub plain_options : Options → words.Options
plain_options options = record { bare = options.bare; fuel = options.fuel; file = options.file.now }

abbrev pub plain_command : Command → words.Command
plain_command (Run options) = words.Run (plain_options options)
plain_command (Trace options) = words.Trace (plain_options options)
plain_command (Check options) = words.Check (plain_options options)
plain_command (Code options) = words.Code (plain_options options)
plain_command (Load n) = words.Load n
plain_command (Pick seed options) = words.Pick seed (plain_options options)
plain_command (Picked seed options) = words.Picked seed (plain_options options)
plain_command (Replay options trace) = words.Replay (plain_options options) trace.now
plain_command (Build options) = words.Build (plain_options options)
plain_command (Exec fuel object) = words.Exec fuel object.now
plain_command (Sites sites seed options) = words.Sites sites seed (plain_options options)
