-- What the answer to a file says of it: the book that it is; or the refusal that reading stops at; or want of memory, and then it is a book.
use Rattle.std.specs.Prelude.{◌≡◌, ℕ, List, Result, MatchResult}
use Rattle.refusal.specs.declared.Unread.{Unread}
use Rattle.refusal.specs.declared.Unread.TheVariants.{Refused, Memory}
use Rattle.words.specs.Format.{Verdict, got, stop, reading}
use Rattle.sitelayout.specs.Layout.{site_format}
use Rattle.sitelayout.specs.Site.{Site}
use Rattle.sitebook.specs.Contents.{contents}
use Rattle.sitebook.specs.declared.book.SiteBook.{SiteBook}

abbrev pub NotRead : Verdict Site → Unread → Type 0
NotRead v (Refused f) = v ≡ stop f.refusal f.place
NotRead v (Memory e) = (b : Site) × (v ≡ got b)

abbrev pub Reads : List ℕ → Result SiteBook Unread → Type 0
Reads bytes answer =
    let v = reading site_format bytes in
    MatchResult answer (λ b. v ≡ got (contents b)) (λ why. NotRead v why)
