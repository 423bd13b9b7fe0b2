-- What a site book says, from the tables that it is stored in.
use Rattle.sitelayout.specs.Site.{Site}
use Rattle.sitebook.specs.declared.book.SiteBook.{SiteBook}
use Rattle.sitebook.specs.Tables.{site_of}

abbrev pub contents : SiteBook → Site
contents b = site_of b.tables
