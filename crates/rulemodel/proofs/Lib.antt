pub mod Gathering
pub mod RuleLaws
pub mod Switches
pub mod Turns
